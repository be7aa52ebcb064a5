use Rattle.std.proofs.Common.{◌≡◌, ◌∙◌, ◌∷◌, List, ℕ, Option, length, ap, subst, sym}
use Rattle.rv_event.specs.Lent.{whole}
use Rattle.rv_event.specs.Past.{named_in, next_of}
use Rattle.rv_waiting.specs.Limits.{most_actors}
use Rattle.rv_waiting.specs.Versions.{AreVersions, asker, with_version}
use Rattle.rv_waiting.proofs.Telling.{told}
use Rattle.rv_waiting.proofs.versions.Versions.note.Goals as goal

pub returns : goal.returns
returns c = λ history now are.
    let e = whole c.args.entry.now in
    let v = c.args.version in
    let first : c.tell.new.self ≡ with_version (asker e) v c.args.self.now = c.tell.ensures ∙ ap (λ (q : Option ℕ). with_version q v c.args.self.now) c.asker.ensures in
    let both : c.tell-2.new.self ≡ with_version (named_in (next_of e)) v (with_version (asker e) v c.args.self.now) =
    c.tell-2.ensures ∙ (λ i. with_version (c.named.ensures i) v (first i)) in
    subst (λ (vs : List ℕ). AreVersions (e ∷ history) vs) (sym both)
    (told e history v c.args.self.now (subst (λ (vs : List ℕ). length vs ≡ most_actors) c.self.view_is c.self.invariant) now c.requires.own c.requires.named are)
