use Rattle.std.proofs.Common.{◌≡◌, List, ℕ, ◌++◌, take, drop, sym, ap, ◌∙◌, append_assoc, take-append-drop}
use Rattle.rv_script.proofs.Wrote.{appends_more}
use Rattle.rv_script.proofs.write.write_whole.Goals as goal

moves : (bytes front rest after : List ℕ) (n : ℕ) → bytes ≡ front ++ rest → after ≡ drop n rest → bytes ≡ (front ++ take n rest) ++ after
moves bytes front rest after n e a =
    e ∙ ap (λ (l : List ℕ). front ++ l) (sym (take-append-drop n rest)) ∙ sym (append_assoc front (take n rest) (drop n rest)) ∙ ap (λ (l : List ℕ). (front ++ take n rest) ++ l) (sym a)

pub loop-rest-preserved : goal.loop-rest-preserved
loop-rest-preserved g c =
    let inv = c.loop-rest.invariant in
    let rest = c.loop-rest.rest.now in
    let n = c.in_ok-count.count in
    (inv.0 ++ take n rest, moves c.args.bytes.now inv.0 rest c.split_at.result.1.now n inv.1 c.split_at.ensures.back, appends_more _ _ _ inv.0 (take n rest) inv.2 c.in_ok-count.ensures.bytes)
