-- Who is told notes may go to another thread, and so each role may.
use denote.RattleType.{RattleType}
use denote.Param.Send.{IsSend, IsSync, recorded_send, struct_send, enum_send}
use denote.Struct.Declared as structs
use denote.Enum.Declared as enums
use Rattle.std.specs.contracts.alloc.Global as global
use Rattle.std.specs.contracts.option.Option as option
use Rattle.std.specs.contracts.impls.GlobalAllocator.TheImpl as heap
use Rattle.std.proofs.alloc.Global.TheSendSync as global_crosses
use Rattle.std.proofs.option.Option.TheSendSync as option_crosses
use Rattle.std.below.std_heap.proofs.GlobalAllocator.TheSendSync as heap_crosses
use Rattle.crossbeam_channel.below.atomic_table.specs.contracts.badge.Badge as badge
use Rattle.crossbeam_channel.below.atomic_table.proofs.badge.Badge.TheSendSync as badge_crosses
use Rattle.crossbeam_channel.below.atomic_table.proofs.shared.Seat.TheSendSync as seat_crosses
use Rattle.crossbeam_channel.specs.contracts.flavors.array.Doing as doing
use Rattle.crossbeam_channel.specs.contracts.flavors.array.Key as key
use Rattle.crossbeam_channel.specs.contracts.flavors.array.Lockers as lockers
use Rattle.crossbeam_channel.specs.contracts.flavors.array.LockersTableRuleOptionKeyUnit.TheImpl as lockers_rule
use Rattle.crossbeam_channel.specs.contracts.flavors.array.Rounds as rounds
use Rattle.crossbeam_channel.specs.contracts.flavors.array.RoundsTableRuleBadgeKeyDoingBadgeKey.TheImpl as rounds_rule
use Rattle.crossbeam_channel.specs.contracts.flavors.array.Rows as rows
use Rattle.crossbeam_channel.specs.contracts.flavors.array.Whole as whole
use Rattle.crossbeam_channel.specs.contracts.flavors.array.WholeSight.TheImpl as whole_sight
use Rattle.crossbeam_channel.proofs.flavors.array.Rows.TheSendSync as rows_crosses
use Rattle.crossbeam_channel.proofs.flavors.array.ruled.Receiving.TheSendSync as receiving_crosses
use Rattle.rv_port.specs.contracts.note.Note as note
use Rattle.rv_port.proofs.Sends.{note_send}
use Rattle.thread_rows.specs.contracts.crews.notes.OneTurn as rule
use Rattle.thread_rows.specs.contracts.crews.notes.OneTurnProtocolNoteOptionNote.TheImpl as protocol
use Rattle.thread_rows.specs.contracts.crews.notes.Hearer as hearer
use Rattle.thread_rows.specs.contracts.crews.told_revoke.ToldReader as told
use Rattle.thread_rows.specs.contracts.role.Role as role
use Rattle.thread_rows.proofs.crews.told_revoke.Caller.TheSendSync as caller_crosses
use Rattle.thread_rows.proofs.crews.two_readers.Ends.TheSendSync as ends_crosses

abbrev known : RattleType
known = option.the_row note.the_row

abbrev keys : RattleType
keys = badge.the_row (key.the_row note.the_row)

abbrev doings : RattleType
doings = doing.the_row note.the_row known

abbrev channel : RattleType
channel = rows.the_row keys doings (rounds.the_row rule.the_row) known (key.the_row note.the_row) (lockers.the_row whole.the_row) global.the_row
    (rounds_rule.ghosts note.the_row known rule.the_row protocol.ghosts rounds_rule.no_dict)
    (lockers_rule.ghosts note.the_row note.the_row whole.the_row (whole_sight.ghosts note.the_row) lockers_rule.no_dict) heap.ghosts

channel_send : IsSend channel
channel_send = rows_crosses.the_send keys doings (rounds.the_row rule.the_row) known (key.the_row note.the_row) (lockers.the_row whole.the_row) global.the_row
    (rounds_rule.ghosts note.the_row known rule.the_row protocol.ghosts rounds_rule.no_dict)
    (lockers_rule.ghosts note.the_row note.the_row whole.the_row (whole_sight.ghosts note.the_row) lockers_rule.no_dict) heap.ghosts
    (badge_crosses.the_send (key.the_row note.the_row)) (option_crosses.the_send note.the_row note_send) global_crosses.the_send heap_crosses.the_frees

channel_sync : IsSync channel
channel_sync = rows_crosses.the_sync keys doings (rounds.the_row rule.the_row) known (key.the_row note.the_row) (lockers.the_row whole.the_row) global.the_row
    (rounds_rule.ghosts note.the_row known rule.the_row protocol.ghosts rounds_rule.no_dict)
    (lockers_rule.ghosts note.the_row note.the_row whole.the_row (whole_sight.ghosts note.the_row) lockers_rule.no_dict) heap.ghosts
    (badge_crosses.the_send (key.the_row note.the_row)) (option_crosses.the_send note.the_row note_send) global_crosses.the_send global_crosses.the_sync heap_crosses.the_frees

hearer_field : IsSend (hearer.the_field).row
hearer_field = struct_send (structs.shape hearer.the_type) (
  receiving_crosses.the_field_send channel global.the_row heap.ghosts channel_send global_crosses.the_send channel_sync global_crosses.the_sync heap_crosses.the_frees,
  (seat_crosses.the_send keys doings (badge_crosses.the_send (key.the_row note.the_row)), tt),
)

told_field : IsSend (told.the_field).row
told_field = struct_send (structs.shape told.the_type) (hearer_field, (caller_crosses.the_field_send, tt))

role_field : IsSend (role.the_field).row
role_field = enum_send (enums.shape role.the_type) (
  (told_field, tt),
  ((ends_crosses.the_field_send, tt), ((ends_crosses.the_field_send, tt), (tt, tt))),
)

pub role_send : IsSend role.the_row
role_send = recorded_send (role.the_field).row _ _ (role.the_type).to_one role_field
