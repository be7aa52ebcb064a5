use Rattle.std.proofs.Common.{List, ℕ, ap, ◌∙◌}
use Rattle.std.specs.Prelude.{string_bytes}
use Rattle.std.specs.HashMap.{get_by_text}
use Rattle.std.proofs.lemmas.Map.Text.{hash_map_updates_text}
use Rattle.rv_tallied.specs.Tallies.{kept_for, more}
use Rattle.rv_tallied.proofs.Counting.{add_is}
use Rattle.rv_tallied.proofs.tallies.Tallies.add.Goals as goal

pub returns : goal.returns
returns c =
    add_is (get_by_text c.insert.new.self) (get_by_text c.args.self.now.items) (string_bytes c.args.words) c.args.times c.args.grants c.more-tally.result
    (c.more-tally.ensures ∙ ap (more c.args.times c.args.grants) (c.of.ensures ∙ ap (λ (words : List ℕ). kept_for c.args.self.now words) c.as_str.ensures.value))
    (hash_map_updates_text (string_bytes c.args.words) c.args.self.now.items c.insert.new.self _ c.in_ok-insert.ensures.updates)
