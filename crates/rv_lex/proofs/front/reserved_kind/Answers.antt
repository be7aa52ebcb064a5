use Rattle.std.proofs.Common.{◌∙◌, ap, refl}
use Rattle.std.specs.Char.{to_ascii_lowercase}
use Rattle.rv_lex.specs.Kinds.{reserved, spelling}
use Rattle.rv_lex.proofs.Sections.{reserved_in}
use Rattle.rv_lex.proofs.front.reserved_kind.Goals as goal

pub returns : goal.returns
unfolding reserved spelling
returns c =
    reserved_in _ c.args.word.now _ _ (c.to_ascii_lowercase.ensures.value ∙ ap to_ascii_lowercase c.byte.ensures)
    c.lookup_section.ensures refl refl
