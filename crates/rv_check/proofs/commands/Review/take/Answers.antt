use Rattle.std.proofs.Common.{rules}
use Rattle.rv_check.proofs.Commanded.{command_taken}
use Rattle.rv_check.proofs.commands.Review.take.Goals as goal

pub returns-else-self-eq-MOST_COMMANDS : goal.returns-else-self-eq-MOST_COMMANDS
returns-else-self-eq-MOST_COMMANDS c =
    command_taken c.args.self.now c.self.inside.catalogue _ _ c.self.inside.count (record { number = c.args.line; text = c.args.text.now }) c.take_command.new.self c.take_command.result
    c.self.view_is (search rules) (search rules) (search rules) c.take_command.ensures
