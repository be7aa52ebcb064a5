-- What the frame on top doesn't take passes it.
use Rattle.std.proofs.Common.{◌≡◌, refl, false, List, ℕ, ℤ, Some}
use Rattle.rv_exec.specs.declared.activation.Activation.{Activation}
use Rattle.rv_exec.specs.declared.end.End.{End}
use Rattle.rv_exec.specs.declared.end.End.TheVariants as ends
use Rattle.rv_exec.specs.declared.end.Asked.{Asked}
use Rattle.rv_exec.specs.Asking.{Asking, ended, and_then}
use Rattle.rv_exec.specs.Activations.{assigned, joined, copied_back}
use Rattle.rv_exec.specs.Operators.{prefix_of, within, result_of}
use Rattle.rv_exec.specs.Calls.{Outcome, completes}
use Rattle.rv_exec.specs.World.{Got, GotAll}
use Rattle.rv_exec.specs.Expressions.{on_value, fails, value, linked, arguments, called, given, returned, answered}
use Rattle.rv_exec.specs.Statements.{abandons, go_on, again, turns, values_over, for_each, exit_where, meanings, selected}
use Rattle.rv_exec.specs.Blocks.{elaborated, handled, closed, performed, exits, world}
use Rattle.rv_exec.specs.Tasks.{over}
use Rattle.rv_frames.specs.Frames.{Now, To, got, all, end, close, out, exit, quit, branch_if, turn_if, turns_from, started_by, by_value, by_values, by_end, by_body, by_request, by_call, prefixing, linking, operating, bounding, arguing, passing, giving, assigning, branching, selecting, testing, turning, lowering, raising, counting, leaving, returning, copying, sequencing, declaring, opening, handling, restoring, closing, resuming, answering, performing, completing, exiting, quitting, valued, listed, done, closes, reaches, outside, exited, quitted, denoted, meant}
use Rattle.rv_frames.specs.Passing.{one_value, all_values, an_end, a_body, a_request, a_call, comes_as, is_kind, OthersPass}

no_value : {A : Type 0} (go : Got → Asking A) (give : To → A → Asking Now) (below : To) (now : Now) → is_kind one_value (comes_as now) ≡ false → by_value go give below now ≡ below now
no_value go give below (valued v a) is = absurd (cc is)
no_value go give below (listed outcome a) is = refl
no_value go give below (done e a) is = refl
no_value go give below (closes outcome components steps) is = refl
no_value go give below (reaches what) is = refl
no_value go give below (outside outcome) is = refl
no_value go give below (exited e components) is = refl
no_value go give below (quitted e) is = refl

no_values : {A : Type 0} (go : GotAll → Asking A) (give : To → A → Asking Now) (below : To) (now : Now) → is_kind all_values (comes_as now) ≡ false → by_values go give below now ≡ below now
no_values go give below (valued v a) is = refl
no_values go give below (listed outcome a) is = absurd (cc is)
no_values go give below (done e a) is = refl
no_values go give below (closes outcome components steps) is = refl
no_values go give below (reaches what) is = refl
no_values go give below (outside outcome) is = refl
no_values go give below (exited e components) is = refl
no_values go give below (quitted e) is = refl

no_end : {A : Type 0} (go : End × Activation → Asking A) (give : To → A → Asking Now) (below : To) (now : Now) → is_kind an_end (comes_as now) ≡ false → by_end go give below now ≡ below now
no_end go give below (valued v a) is = refl
no_end go give below (listed outcome a) is = refl
no_end go give below (done e a) is = absurd (cc is)
no_end go give below (closes outcome components steps) is = refl
no_end go give below (reaches what) is = refl
no_end go give below (outside outcome) is = refl
no_end go give below (exited e components) is = refl
no_end go give below (quitted e) is = refl

no_body : {A : Type 0} (go : Outcome × (List ℤ × ℕ) → Asking A) (give : To → A → Asking Now) (below : To) (now : Now) → is_kind a_body (comes_as now) ≡ false → by_body go give below now ≡ below now
no_body go give below (valued v a) is = refl
no_body go give below (listed outcome a) is = refl
no_body go give below (done e a) is = refl
no_body go give below (closes outcome components steps) is = absurd (cc is)
no_body go give below (reaches what) is = refl
no_body go give below (outside outcome) is = refl
no_body go give below (exited e components) is = refl
no_body go give below (quitted e) is = refl

no_request : {A : Type 0} (go : Asked → Asking A) (give : To → A → Asking Now) (below : To) (now : Now) → is_kind a_request (comes_as now) ≡ false → by_request go give below now ≡ below now
no_request go give below (valued v a) is = refl
no_request go give below (listed outcome a) is = refl
no_request go give below (done e a) is = refl
no_request go give below (closes outcome components steps) is = refl
no_request go give below (reaches what) is = absurd (cc is)
no_request go give below (outside outcome) is = refl
no_request go give below (exited e components) is = refl
no_request go give below (quitted e) is = refl

no_call : {A : Type 0} (go : Outcome → Asking A) (give : To → A → Asking Now) (below : To) (now : Now) → is_kind a_call (comes_as now) ≡ false → by_call go give below now ≡ below now
no_call go give below (valued v a) is = refl
no_call go give below (listed outcome a) is = refl
no_call go give below (done e a) is = refl
no_call go give below (closes outcome components steps) is = refl
no_call go give below (reaches what) is = refl
no_call go give below (outside outcome) is = absurd (cc is)
no_call go give below (exited e components) is = refl
no_call go give below (quitted e) is = refl

pub others_pass : OthersPass
unfolding meant denoted
others_pass bodies (prefixing op) fs s now is = no_value (on_value fails (λ v a. ended (prefix_of op v, a))) got (denoted bodies fs s) now is
others_pass bodies (linking ls) fs s now is = no_value (on_value fails (linked (world bodies s) ls)) got (denoted bodies fs s) now is
others_pass bodies (operating op v ls) fs s now is = no_value (on_value fails (λ u a. on_value fails (linked (world bodies s) ls) (result_of op v u, a))) got (denoted bodies fs s) now is
others_pass bodies (bounding range) fs s now is = no_value (on_value fails (λ v a. ended (within range v, a))) got (denoted bodies fs s) now is
others_pass bodies (arguing values es) fs s now is = no_value (on_value fails (λ v a. arguments (world bodies s) es (joined values v) a)) all (denoted bodies fs s) now is
others_pass bodies (passing callee) fs s now is = no_values (on_value fails (called (world bodies s) callee)) all (denoted bodies fs s) now is
others_pass bodies giving fs s now is = no_values given got (denoted bodies fs s) now is
others_pass bodies (assigning target) fs s now is = no_value (on_value abandons (λ v a. ended (assigned target v a))) end (denoted bodies fs s) now is
others_pass bodies (branching ss more otherwise) fs s now is = no_value (on_value abandons (branch_if (world bodies s) ss more otherwise)) end (denoted bodies fs s) now is
others_pass bodies (selecting alternatives) fs s now is = no_value (on_value abandons (selected (world bodies s) alternatives)) end (denoted bodies fs s) now is
others_pass bodies (testing n e ss) fs s now is = no_value (on_value abandons (turn_if (world bodies s) n e ss)) end (denoted bodies fs s) now is
others_pass bodies (turning n e ss) fs s now is = no_end (again (turns n (value (world bodies s) e) (meanings (world bodies s) ss))) end (denoted bodies fs s) now is
others_pass bodies (lowering slot is_reverse range high ss) fs s now is = no_value (on_value abandons (turns_from (world bodies s) slot is_reverse range high ss)) end (denoted bodies fs s) now is
others_pass bodies (raising slot is_reverse range low ss) fs s now is = no_value (on_value abandons (for_each is_reverse range slot (meanings (world bodies s) ss) low)) end (denoted bodies fs s) now is
others_pass bodies (counting n is_reverse low high slot ss) fs s now is = no_end (again (values_over n is_reverse low high slot (meanings (world bodies s) ss))) end (denoted bodies fs s) now is
others_pass bodies leaving fs s now is = no_value (on_value abandons (λ v a. ended (exit_where v, a))) end (denoted bodies fs s) now is
others_pass bodies returning fs s now is = no_value (on_value abandons (λ v a. ended (ends.Return (Some v), a))) end (denoted bodies fs s) now is
others_pass bodies (copying targets) fs s now is = no_values (on_value abandons (λ values a. ended (copied_back targets 0 values a))) end (denoted bodies fs s) now is
others_pass bodies (sequencing ss) fs s now is = no_end (go_on (meanings (world bodies s) ss)) end (denoted bodies fs s) now is
others_pass bodies (declaring target more) fs s now is = no_value (on_value abandons (λ v a. go_on (elaborated (world bodies s) more) (assigned target v a))) end (denoted bodies fs s) now is
others_pass bodies (opening ss hs) fs s now is = no_end (go_on (λ a. and_then (meanings (world bodies s) ss a) (handled (world bodies s) hs))) end (denoted bodies fs s) now is
others_pass bodies (handling hs) fs s now is = no_end (handled (world bodies s) hs) end (denoted bodies fs s) now is
others_pass bodies (restoring exception) fs s now is = refl
others_pass bodies (closing body) fs s now is = no_end (closed body) close (denoted bodies fs s) now is
others_pass bodies (resuming t a) fs s now is = no_body (returned a) all (denoted bodies fs t) now is
others_pass bodies (answering a) fs s now is = no_call (answered (world bodies s) a) all (denoted bodies fs s) now is
others_pass bodies (performing held values) fs s now is = no_request (performed (started_by bodies held values)) out (denoted bodies fs s) now is
others_pass bodies (completing is_function t) fs s now is = no_body (completes is_function) out (denoted bodies fs t) now is
others_pass bodies exiting fs s now is = no_body exits exit (denoted bodies fs s) now is
others_pass bodies (quitting body) fs s now is = no_end (over body) quit (denoted bodies fs s) now is
