use Rattle.std.proofs.Common.{sym, subst, []}
use Rattle.rv_tree.specs.UnitGrammar.{IsUnit}
use Rattle.rv_parse.proofs.Whole.{sound_text, same_unit, no_words, deep_text, words_not_deep, lexed_text, first_of_words}
use Rattle.rv_parse.proofs.text.parse.Goals as goal

pub returns-in-Ok-clause-sound : goal.returns-in-Ok-clause-sound
returns-in-Ok-clause-sound c = sound_text c.args.text.now _ _ c.read_words.result c.as_slice.ensures c.in-Ok.ensures.words c.read_words.ensures.sound

pub returns-in-Ok-clause-complete : goal.returns-in-Ok-clause-complete
returns-in-Ok-clause-complete c = λ tree d.
    c.read_words.ensures.complete tree (subst (λ ts. IsUnit tree ts []) (sym c.as_slice.ensures) (same_unit c.args.text.now _ tree c.in-Ok.ensures.only d))

pub returns-in-Err-clause-complete : goal.returns-in-Err-clause-complete
returns-in-Err-clause-complete c = λ tree d. rw c.words_fault.ensures (no_words c.args.text.now c.in-Err.fault tree c.in-Err.ensures.none d)

pub returns-in-Ok-clause-deep : goal.returns-in-Ok-clause-deep
returns-in-Ok-clause-deep c = deep_text c.args.text.now _ _ c.read_words.result c.as_slice.ensures c.in-Ok.ensures.words c.read_words.ensures.deep

pub returns-in-Err-clause-deep : goal.returns-in-Err-clause-deep
returns-in-Err-clause-deep c = rw c.words_fault.ensures (words_not_deep c.args.text.now c.in-Err.fault)

pub returns-in-Ok-clause-words : goal.returns-in-Ok-clause-words
returns-in-Ok-clause-words c = lexed_text c.args.text.now _ c.read_words.result c.in-Ok.ensures.words c.read_words.ensures.words

pub returns-in-Err-clause-words : goal.returns-in-Err-clause-words
returns-in-Err-clause-words c = rw c.words_fault.ensures (first_of_words c.args.text.now c.in-Err.fault c.in-Err.ensures.fault)
