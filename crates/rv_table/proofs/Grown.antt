-- The table of the same list over one more unit.
use Rattle.std.proofs.Common.{◌≡◌, ◌++◌, ◌∷◌, [], ℕ, ap, subst, sym, List}
use Rattle.std.specs.List.{AllZip}
use Rattle.std.proofs.lemmas.List.{map-append}
use Rattle.rv_access.specs.Words.{Words}
use Rattle.rv_shape.specs.Catalogue.{all_objects, objects_of}
use Rattle.rv_shape.specs.Shape.{Shape}
use Rattle.rv_shape.proofs.Added.{objects_append}
use Rattle.rv_table.specs.Spans.{IsSpans, SpanMarks}
use Rattle.rv_table.specs.Tables.{AreSites, IsCaller, IsTable, Marks, callers}

callers_append : (shapes : List Shape) (s : Shape) → callers (shapes ++ s ∷ []) ≡ callers shapes ++ s.name ∷ []
callers_append shapes s = ap (λ (names : List (List ℕ)). callers [] ++ names) (map-append (λ (shape : Shape). shape.name) shapes (s ∷ []))

pub table_more : (list : List Words) (shapes : List Shape) (s : Shape) (t : Marks) (own : List (List ℕ)) (sites : List (List (List ℕ))) (spans : SpanMarks) →
    IsTable list shapes t →
    AllZip (IsCaller list) (callers shapes ++ s.name ∷ []) own →
    AllZip (AreSites list) (all_objects shapes ++ objects_of s) sites →
    IsSpans list spans →
    IsTable list (shapes ++ s ∷ []) (record { callers = own; objects = sites; nameless = t.nameless; allowing = t.allowing; spans = spans; lines = t.lines })
table_more list shapes s t own sites spans is mine theirs open_rows = record {
  few = is.few;
  count = is.count;
  callers = subst (λ names. AllZip (IsCaller list) names own) (sym (callers_append shapes s)) mine;
  objects = subst (λ os. AllZip (AreSites list) os sites) (sym (objects_append shapes s)) theirs;
  nameless = is.nameless;
  allowing = is.allowing;
  spans = open_rows;
}
