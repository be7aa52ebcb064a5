-- One word more, the end of a text, and a fault.
use Rattle.std.proofs.Common.{◌≡◌, ◌≢◌, ℕ, ◌+◌, ◌<◌, List, [], ◌∷◌, ◌++◌, length, take, drop, Ok, Err, refl, sym, ap, ◌∙◌, subst, arith, length-drop}
use Rattle.std.proofs.Math.Seq.{drop-length}
use Rattle.rv_lex.specs.declared.kind.Kind.{Kind}
use Rattle.rv_lex.specs.declared.fault.WordFault.{WordFault}
use Rattle.rv_lex.specs.declared.fault.WordFault.TheVariants as fault
use Rattle.rv_lex.specs.Kinds.{Text}
use Rattle.rv_lex.specs.Characters.{gap_len}
use Rattle.rv_lex.specs.Faults.{fault_at}
use Rattle.rv_lex.specs.Front.{word}
use Rattle.rv_lex.specs.Lexes.{past_gap, Leads, Lexes, Lexeme, IsFirstFault, Refuses}

pub leads_more : (ts : List Lexeme) (at : ℕ) (z : Text) (mid : ℕ) (m : Text) (t : Lexeme) (end : ℕ) (rest : Text) → Leads at z ts mid m → Leads mid m (t ∷ []) end rest → Leads at z (ts ++ t ∷ []) end rest
leads_more [] at z mid m t end rest h g =
    let a = sym h.0 in let b = sym h.1 in
    subst (λ (p : ℕ × Text). Leads p.0 p.1 (t ∷ []) end rest) (λ i. (a i, b i)) g
leads_more (x ∷ ts) at z mid m t end rest h g = (h.0, h.1, h.2, leads_more ts _ _ mid m t end rest h.3 g)

abbrev pub word_at : Kind → Text → ℕ → Lexeme
word_at kind text place = record { kind = kind; text = text; place = place }

abbrev MoreAt : Text → List Lexeme → ℕ → Text → Text → Kind → Text → ℕ → Type 0
MoreAt z ts place rest after kind text skipped =
    word (drop skipped rest) ≡ Ok (kind, length text) → text ≡ take (length text) (drop skipped rest) → after ≡ drop (length text) (drop skipped rest)
    → Leads 0 z (ts ++ word_at kind text (place + skipped) ∷ []) (place + skipped + length text) after

more_at_gap : (z : Text) (ts : List Lexeme) (place : ℕ) (rest after : Text) (kind : Kind) (text : Text) → Leads 0 z ts place rest → MoreAt z ts place rest after kind text (gap_len rest)
more_at_gap z ts place rest after kind text h is front back =
    leads_more ts 0 z place rest (word_at kind text (place + gap_len rest)) (place + gap_len rest + length text) after h (is, front, refl, (refl, sym back))

-- a word more, behind the gap
pub word_more : (z : Text) (ts : List Lexeme) (place : ℕ) (rest after : Text) (kind : Kind) (text : Text) (skipped : ℕ) → Leads 0 z ts place rest → skipped ≡ gap_len rest → MoreAt z ts place rest after kind text skipped
word_more z ts place rest after kind text skipped h gap =
    subst (MoreAt z ts place rest after kind text) (sym gap) (more_at_gap z ts place rest after kind text h)

some_left : (rest : Text) (skipped : ℕ) → skipped < length rest → drop skipped rest ≢ []
some_left rest skipped h e = absurd (omega (arith, length-drop skipped rest, ap length e))

pub first_fault : (z : Text) (ts : List Lexeme) (place : ℕ) (rest : Text) (skipped : ℕ) (fault : WordFault) → Leads 0 z ts place rest → skipped ≡ gap_len rest → skipped < length rest → word (drop skipped rest) ≡ Err fault → IsFirstFault z fault (place + skipped)
first_fault z ts place rest skipped fault h gap some is =
    let behind : drop skipped rest ≡ past_gap rest = ap (λ n. drop n rest) gap in
    record {
      before = ts;
      end = place;
      rest = rest;
      words = h;
      some = λ e. some_left rest skipped some (behind ∙ e);
      fault_is = sym (ap word behind) ∙ is;
      place_is = ap (λ n. place + n) gap;
    }

-- the fault behind the gap is the first
pub refuses : (fault : WordFault) (z : Text) (ts : List Lexeme) (place : ℕ) (rest : Text) (skipped : ℕ) → Leads 0 z ts place rest → skipped ≡ gap_len rest → skipped < length rest → word (drop skipped rest) ≡ Err fault → Refuses z (fault_at fault (place + skipped))
refuses fault.BadCharacter z ts place rest skipped h gap some is = first_fault z ts place rest skipped fault.BadCharacter h gap some is
refuses fault.BadLiteral z ts place rest skipped h gap some is = first_fault z ts place rest skipped fault.BadLiteral h gap some is
refuses fault.BadIdentifier z ts place rest skipped h gap some is = first_fault z ts place rest skipped fault.BadIdentifier h gap some is
refuses fault.NotAscii z ts place rest skipped h gap some is = first_fault z ts place rest skipped fault.NotAscii h gap some is

-- where the gap goes to the end, the words are those of the whole text
pub finish : (z : Text) (ts : List Lexeme) (place : ℕ) (rest : Text) (skipped : ℕ) → Leads 0 z ts place rest → skipped ≡ gap_len rest → skipped ≡ length rest → Lexes z ts
finish z ts place rest skipped h gap all =
    record { end = place; rest = rest; words = h; gap = ap (λ n. drop n rest) (sym gap ∙ all) ∙ drop-length rest }
