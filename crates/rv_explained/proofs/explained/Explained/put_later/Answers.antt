use Rattle.std.proofs.Common.{◌++◌, ap, ◌∙◌}
use Rattle.std.proofs.lemmas.Result.{on_ok_weaker}
use Rattle.std.specs.Prelude.{string_bytes}
use Rattle.rv_event.specs.declared.entry.Next.{Next}
use Rattle.rv_explained.specs.Explanations.{later_body, later_wait}
use Rattle.rv_explained.proofs.Appending.{two_put}
use Rattle.rv_explained.proofs.explained.Explained.put_later.Goals as goal

pub returns-clause-text : goal.returns-clause-text
returns-clause-text c =
    let h = c.args.host.now in
    let ends = c.args.ends.now in
    let asked = c.args.self.now.entry in
    let old = string_bytes c.args.self.now.text in
    let body = later_body asked h c.args.number c.args.line.now ends.body in
    on_ok_weaker c.put_later_body.result
    (λ put keeps. two_put old (string_bytes c.put_later_wait.new.text) (string_bytes c.put_later_body.new.text) (later_wait asked h c.args.number c.next_of.result c.args.line.now ends.wait) body
    (c.in_ok-put_later_wait.ensures keeps) put
    ∙ ap (λ (n : Next). old ++ (later_wait asked h c.args.number n c.args.line.now ends.wait ++ body)) c.next_of.ensures) c.put_later_body.ensures
