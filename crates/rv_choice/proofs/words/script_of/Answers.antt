use Rattle.std.proofs.Common.{◌∙◌, ap, codes}
use Rattle.clap.specs.Matches.{found_of}
use Rattle.clap.proofs.WalkLemmas.{first_value-rows}
use Rattle.rv_choice.specs.Choices.{named_file}
use Rattle.rv_choice.proofs.words.script_of.Goals as goal

pub returns : goal.returns
returns c = c.named_file.ensures ∙ ap named_file (c.get_str.ensures ∙ first_value-rows (found_of c.args.words.now) (codes "file"))
