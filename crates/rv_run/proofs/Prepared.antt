-- One section after another.
use Rattle.std.proofs.Common.{◌≡◌, ◌<◌, ◌+◌, ℕ, suc, length, get_or, drop, drop-cons, add-one, List, [], ◌∷◌, Ok, Err, inl, inr, refl, sym, subst}
use Rattle.rv_fault.specs.declared.failure.Failure.{Failure}
use Rattle.rv_port.specs.Traces.{Passing}
use Rattle.rv_text.specs.Sections.{SectionText}
use Rattle.rv_event.specs.declared.entry.Answer.{Answer}
use Rattle.rv_event.specs.declared.entry.Answer.TheVariants.{OutOfMemory}
use Rattle.rv_settings.specs.Settings.{DeviceText}
use Rattle.rv_run.specs.Preparing.{CarriesOut, CarriesOutAll, Done, HeardAnswer, KeptAnswer, LoadsDevice, LoadsDevices}

-- what is left to carry out makes the whole
abbrev pub SoFar : Passing → Passing → List SectionText → List SectionText → Type 0
SoFar v w left all = (after : Passing) (result : Done) → CarriesOutAll w after left result → CarriesOutAll v after all result

pub at_first : (v : Passing) (all : List SectionText) → SoFar v v all all
at_first v all after result carried = carried

one_further : (w u : Passing) (section : SectionText) (others : List SectionText) (after : Passing) (result : Done)
    → CarriesOut w u section (Ok tt) → CarriesOutAll u after others result → CarriesOutAll w after (section ∷ others) result
one_further w u section others after (Ok x) one more = (u, one, more)
one_further w u section others after (Err failure) one more = inr (u, one, more)

pub goes_further : (v w u : Passing) (section : SectionText) (left others all : List SectionText) → left ≡ section ∷ others
    → SoFar v w left all → CarriesOut w u section (Ok tt) → SoFar v u others all
goes_further v w u section left others all is so_far one after result more =
    so_far after result (subst (λ (l : List SectionText). CarriesOutAll w after l result) (sym is) (one_further w u section others after result one more))

pub stops_here : (v w u : Passing) (section : SectionText) (left others all : List SectionText) (failure : Failure) → left ≡ section ∷ others
    → SoFar v w left all → CarriesOut w u section (Err failure) → CarriesOutAll v u all (Err failure)
stops_here v w u section left others all failure is so_far one =
    so_far u (Err failure) (subst (λ (l : List SectionText). CarriesOutAll w u l (Err failure)) (sym is) (inl one))

pub comes_to_its_end : (v w : Passing) (left all : List SectionText) → left ≡ [] → SoFar v w left all → CarriesOutAll v w all (Ok tt)
comes_to_its_end v w left all none so_far = so_far w (Ok tt) (subst (λ (l : List SectionText). CarriesOutAll w w l (Ok tt)) (sym none) (refl, refl))

-- Devices, likewise.

abbrev pub DevicesSoFar : Passing → Passing → ℕ → List DeviceText → List DeviceText → Type 0
DevicesSoFar v w line left all = (after : Passing) (result : Done) → LoadsDevices w after line left result → LoadsDevices v after line all result

pub next_device : (all : List DeviceText) (i : ℕ) (device : DeviceText) → i < length all → device ≡ get_or all i device → drop i all ≡ device ∷ drop (i + 1) all
next_device all i device within is =
    subst (λ (n : ℕ). drop i all ≡ device ∷ drop n all) (sym (add-one i))
    (subst (λ (d : DeviceText). drop i all ≡ d ∷ drop (suc i) all) (sym is) (drop-cons all i device within))

pub devices_first : (v : Passing) (line : ℕ) (all : List DeviceText) → DevicesSoFar v v line all all
devices_first v line all after result loaded = loaded

one_device : (w u : Passing) (line : ℕ) (device : DeviceText) (others : List DeviceText) (after : Passing) (result : Done)
    → LoadsDevice w u line device (Ok tt) → LoadsDevices u after line others result → LoadsDevices w after line (device ∷ others) result
one_device w u line device others after (Ok x) one more = (u, one, more)
one_device w u line device others after (Err failure) one more = inr (u, one, more)

pub devices_further : (v w u : Passing) (line : ℕ) (device : DeviceText) (left others all : List DeviceText) → left ≡ device ∷ others
    → DevicesSoFar v w line left all → LoadsDevice w u line device (Ok tt) → DevicesSoFar v u line others all
devices_further v w u line device left others all is so_far one after result more =
    so_far after result (subst (λ (l : List DeviceText). LoadsDevices w after line l result) (sym is) (one_device w u line device others after result one more))

pub devices_stop : (v w u : Passing) (line : ℕ) (device : DeviceText) (left others all : List DeviceText) (failure : Failure) → left ≡ device ∷ others
    → DevicesSoFar v w line left all → LoadsDevice w u line device (Err failure) → LoadsDevices v u line all (Err failure)
devices_stop v w u line device left others all failure is so_far one =
    so_far u (Err failure) (subst (λ (l : List DeviceText). LoadsDevices w u line l (Err failure)) (sym is) (inl one))

pub devices_end : (v w : Passing) (line : ℕ) (left all : List DeviceText) → left ≡ [] → DevicesSoFar v w line left all → LoadsDevices v w line all (Ok tt)
devices_end v w line left all none so_far =
    so_far w (Ok tt) (subst (λ (l : List DeviceText). LoadsDevices w w line l (Ok tt)) (sym none) (refl, refl))

-- another answer than want of memory
pub heard_else : (answer : Answer) → (answer ≡ OutOfMemory → ⊥) → HeardAnswer answer (Ok tt)
heard_else OutOfMemory other = absurd (other refl)
heard_else answer other = refl

pub kept_else : (answer : Answer) → (answer ≡ OutOfMemory → ⊥) → KeptAnswer answer (Ok tt)
kept_else OutOfMemory other = absurd (other refl)
kept_else answer other = inl refl
