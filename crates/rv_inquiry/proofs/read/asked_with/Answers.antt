use Rattle.std.proofs.Common.{◌∙◌, codes}
use Rattle.clap.specs.Matches.{found_of}
use Rattle.clap.proofs.WalkLemmas.{first_value-rows}
use Rattle.rv_inquiry.proofs.read.asked_with.Goals as goal

pub returns-clause-given : goal.returns-clause-given
returns-clause-given c =
    let given = found_of c.args.words.now in
    record {
      journal = c.get_str.ensures ∙ first_value-rows given (codes "journal");
      times = c.get_str-2.ensures ∙ first_value-rows given (codes "times");
      torn = c.in_ok-takes_torn.ensures;
      since = c.in_ok-since.ensures;
      by = c.get_str-3.ensures ∙ first_value-rows given (codes "by");
      of = c.get_str-4.ensures ∙ first_value-rows given (codes "of");
      entry = c.in_ok-entry.ensures;
      list = c.get_str-5.ensures ∙ first_value-rows given (codes "list");
      first = c.in_ok-first.ensures;
      last = c.in_ok-last.ensures;
      svg = c.in_ok-is_svg.ensures;
      json = c.given_json.ensures;
    }
