use Rattle.std.proofs.lemmas.Result.{on_ok_weaker}
use Rattle.rv_ends.proofs.Whole.{whole_loaded}
use Rattle.rv_ends.proofs.ends.Ends.load.Goals as goal

pub returns-clause-whole : goal.returns-clause-whole
returns-clause-whole c =
    on_ok_weaker c.add_texts.result
    (λ texts. whole_loaded c.args.self.now c.add_texts.new.self c.add_texts.ensures.tabled c.add_texts.ensures.same.0 c.add_texts.ensures.same.1) c.add_texts.ensures.texts
