use Rattle.std.proofs.Common.{refl, sym, ◌≡◌, ◌≤◌, length, arith, false, drop, ap, ◌∙◌}
use Rattle.rv_text.specs.Sections.{front_len, lines_ended}
use Rattle.rv_text.proofs.NextAt.{section_boundary}
use Rattle.rv_text.proofs.NextSection.{rest_opens, cut_off}
use Rattle.rv_text.proofs.sections.Sections.next_section.Goals as goal

pub split_at-requires-2 : goal.split_at-requires-2
split_at-requires-2 c =
    let text = c.self.inside.text.now in
    let at : c.front_len.result ≡ front_len false (drop 1 text) = c.front_len.ensures.value ∙ (rw (c.split_at.ensures.back, c.as_bytes.ensures.value) refl) in
    section_boundary text c.front_len.result (omega (arith, c.if-whole-eq0.false)) at

pub invariant_of-self : goal.invariant_of-self
invariant_of-self c =
    let text = c.self.inside.text.now in
    let at : c.front_len.result ≡ front_len false (drop 1 text) = c.front_len.ensures.value ∙ (rw (c.split_at.ensures.back, c.as_bytes.ensures.value) refl) in
    let feeds : c.lines_ended.result ≤ length c.split_at-2.result.0.now = rw (← c.as_bytes-2.ensures.value) c.lines_ended.ensures.within in (
      rest_opens text c.split_at-2.result.1.now c.front_len.result (omega (arith, c.if-whole-eq0.false)) at c.split_at-2.ensures.back,
      omega (arith, feeds, c.self.invariant.1),
    )

pub returns-clause-first : goal.returns-clause-first
returns-clause-first c =
    let text = c.self.inside.text.now in
    let at : c.front_len.result ≡ front_len false (drop 1 text) = c.front_len.ensures.value ∙ (rw (c.split_at.ensures.back, c.as_bytes.ensures.value) refl) in
    let first = cut_off text c.split_at-2.result.0.now c.split_at-2.result.1.now c.in-Some.opening.now c.in-Some.text.now c.front_len.result c.self.inside.line c.lines_ended.result
    (omega (arith, c.if-whole-eq0.false)) c.self.invariant.0 at c.split_at-2.ensures.front c.split_at-2.ensures.back c.in-Some.ensures.lines c.in-Some.ensures.behind
    (c.lines_ended.ensures.value ∙ ap lines_ended c.as_bytes-2.ensures.value) in
    sym c.self.view_is ∙ first
