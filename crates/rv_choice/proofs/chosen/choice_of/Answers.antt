use Rattle.std.proofs.Common.{rules, ◌≡◌, List, Some, codes}
use Rattle.clap.specs.Words.{subcommand_rows_of}
use Rattle.clap.specs.Matches.{found_of}
use Rattle.clap.specs.Walk.{Row, Text, rows_of}
use Rattle.rv_choice.proofs.Choosing.{audit_wrongs, check_wrongs, play_wrongs, run_wrongs, selected}
use Rattle.rv_choice.proofs.chosen.choice_of.Goals as goal

pub returns-then-eq-clause-found : goal.returns-then-eq-clause-found
returns-then-eq-clause-found c =
    let found : Text × List Row = (codes "play", rows_of (found_of c.in_ok-name.words.now)) in
    let is : subcommand_rows_of c.args.matches.now ≡ Some found = search rules in
    (found, is, selected found c.play_chosen.result c.play_chosen.ensures.ok (play_wrongs found.1 _ c.play_chosen.ensures.wrong))

pub returns-then-eq-2-clause-found : goal.returns-then-eq-2-clause-found
returns-then-eq-2-clause-found c =
    let found : Text × List Row = (codes "check", rows_of (found_of c.in_ok-name.words.now)) in
    let is : subcommand_rows_of c.args.matches.now ≡ Some found = search rules in
    (found, is, selected found c.check_chosen.result c.check_chosen.ensures.ok (check_wrongs found.1 _ c.check_chosen.ensures.wrong))

pub returns-then-eq-3-clause-found : goal.returns-then-eq-3-clause-found
returns-then-eq-3-clause-found c =
    let found : Text × List Row = (codes "run", rows_of (found_of c.in_ok-name.words.now)) in
    let is : subcommand_rows_of c.args.matches.now ≡ Some found = search rules in
    (found, is, selected found c.run_chosen.result c.run_chosen.ensures.ok (run_wrongs found.1 _ c.run_chosen.ensures.wrong))

pub returns-then-eq-4-clause-found : goal.returns-then-eq-4-clause-found
returns-then-eq-4-clause-found c =
    let found : Text × List Row = (codes "audit", rows_of (found_of c.in_ok-name.words.now)) in
    let is : subcommand_rows_of c.args.matches.now ≡ Some found = search rules in
    (found, is, selected found c.audit_chosen.result c.audit_chosen.ensures.ok (audit_wrongs found.1 _ c.audit_chosen.ensures.wrong))
