use Rattle.std.proofs.Common.{◌≡◌, true, inl, inr, refl, rules, tests}
use Rattle.rv_attend.proofs.AskedAgain.{in_vain}
use Rattle.rv_attend.proofs.asking.ask_again.Goals as goal

pub returns-then-not-is_full-clause-asks : goal.returns-then-not-is_full-clause-asks
returns-then-not-is_full-clause-asks g c = (c.args.session.now.staff.control, inl refl, record { serves = c.ask-first.ensures.serves })

pub returns-clause-asks : goal.returns-clause-asks
returns-clause-asks g c =
    let is : c.is_full.result ≡ true = search (rules, tests) in (
      c.make_room.new.staff.control,
      inr (in_vain _ c.ask-first.new.staff.control c.make_room.new.staff.control c.args.line.now c.ask-first.result.text.items c.ask-first.result.next
          c.ask-first.ensures.serves (c.is_full.ensures is) c.make_room.ensures.chores),
      record { serves = c.ask.ensures.serves },
    )
