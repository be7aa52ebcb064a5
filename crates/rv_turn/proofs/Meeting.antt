-- A note that was met.
use Rattle.std.proofs.Common.{◌≡◌, ℕ, List, ◌++◌, Option, sym, ◌∙◌, subst}
use Rattle.atomic_table.specs.Seated.{TableId}
use Rattle.atomic_table.specs.Table.{Me}
use Rattle.rv_turn.specs.Histories.{mine}
use Rattle.rv_turn.specs.Passes.{IsPass, Meets, known_of}
use Rattle.rv_turn.specs.Rules.{Heard}
use Rattle.rv_turn.specs.Views.{informed, heeding}
use Rattle.rv_turn.specs.declared.view.View.{View}
use Rattle.rv_turn.proofs.Longer.{longer_within, longer_first, longer_second, longer_is, mine_between}

module _ {C E A : Type 0} (history : C → List E) (about : C → A) (by : E → ℕ) (board place place' : TableId) (m j w : Me (Option C) (View E A)) (n : View E A) (actor acts : ℕ)
    (is : IsPass by {C = C} board place m actor acts) (told : j ≡ (informed m.0 n, m.1)) (heard : Heard history about by j w) where
  abbrev v : View E A
  v = m.0

  abbrev after : Me (Option C) (View E A)
  after = (heeding (informed v n), m.1)

  t : Heard history about by (informed v n, m.1) w
  t = subst (λ (z : Me (Option C) (View E A)). Heard history about by z w) told heard

  owns : mine by v.actor after.0.seen ≡ v.base ++ v.own
  owns = mine_between by v.actor v.seen after.0.seen t.0 (v.base ++ v.own) is.owns (longer_first t.0 v.seen n.seen t.2 t.3) (longer_within t.0 v.seen n.seen t.2 t.3) (t.4 is.idle.2)

  pub heeded_pass : place' ≡ place → IsPass by {C = C} board place' w actor acts
  heeded_pass same = subst (λ (z : Me (Option C) (View E A)). IsPass by {C = C} board place' z actor acts) (sym t.1) record {
    words = is.words;
    seated = same ∙ is.seated;
    idle = is.idle;
    none_held = is.none_held;
    actor_is = is.actor_is;
    acts_is = is.acts_is;
    owns = owns;
  }

  met : place' ≡ place → Meets by (known_of place v acts) n.seen (known_of place' after.0 acts)
  met same = record {
    earlier = longer_first t.0 v.seen n.seen t.2 t.3;
    told = longer_second t.0 v.seen n.seen t.2 t.3;
    no_more = longer_is v.seen n.seen;
    same = λ i. record (known_of (same i) v acts) { seen = after.0.seen };
    owns = owns;
  }

  pub heeded_meets : (note : List E) → n.seen ≡ note → place' ≡ place → Meets by (known_of place v acts) note (known_of place' w.0 acts)
  heeded_meets note here same =
      subst (λ (z : List E × Me (Option C) (View E A)). Meets by (known_of place v acts) z.0 (known_of place' z.1.0 acts)) (λ i. (here i, sym t.1 i)) (met same)
