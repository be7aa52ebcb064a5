use Rattle.std.proofs.Common.{◌≡◌, List, ℕ, Option, length, ap, ◌∙◌, ◌++◌, if◌then◌else◌}
use Rattle.std.proofs.lemmas.Result.{IfOk-weaker}
use Rattle.std.specs.Prelude.{option_copied, string_bytes}
use Rattle.rv_access.specs.Words.{Words}
use Rattle.rv_shape.specs.Catalogue.{all_objects}
use Rattle.rv_rights.specs.Rights.{or_no_text, rights_below, rights_text}
use Rattle.rv_rights.proofs.Keeping.{all_listed}
use Rattle.rv_rights.proofs.rights.Rights.into_text.Goals as goal

pub returns : goal.returns
returns c = λ wish other h names follows.
    IfOk-weaker c.or_no_difference.result (λ said. string_bytes said ≡ (if c.tells_none.result then or_no_text (string_bytes c.put_rights.new.text) else string_bytes c.put_rights.new.text)) (λ said. string_bytes said ≡ rights_text wish other h)
    (λ said is. all_listed wish other c.args.self h c.args.catalogue.now (string_bytes c.put_rights.new.text) (string_bytes said) c.tells_none.result names follows
    (c.in_ok-put_rights.ensures ∙ ap (λ (bs : List ℕ). bs ++ rights_below c.args.self.wish c.args.self.list (option_copied c.as_ref.result) c.args.catalogue.now (length (all_objects c.args.catalogue.now))) c.new-text.ensures.bytes
    ∙ ap (λ (o : Option (List Words)). rights_below c.args.self.wish c.args.self.list o c.args.catalogue.now (length (all_objects c.args.catalogue.now))) c.as_ref.ensures.value)
    c.tells_none.ensures is) c.or_no_difference.ensures
