-- Request by request, the parts of what asks.
use Rattle.std.proofs.Common.{◌≡◌, refl, ap}
use Rattle.std.proofs.Math.Path.{fun_ext}
use Rattle.rv_exec.specs.Asking.{Asking, ended, asking, and_then}

pub associative :
    {A B C : Type 0} (x : Asking A) (go : A → Asking B) (more : B → Asking C)
    → and_then (and_then x go) more ≡ and_then x (λ a. and_then (go a) more)
associative (ended a) go more = refl
associative (asking request next) go more = ap (asking request) (fun_ext (λ answer. associative (next answer) go more))

pub ends_add_nothing : {A : Type 0} (x : Asking A) → and_then x ended ≡ x
ends_add_nothing (ended a) = refl
ends_add_nothing (asking request next) = ap (asking request) (fun_ext (λ answer. ends_add_nothing (next answer)))
