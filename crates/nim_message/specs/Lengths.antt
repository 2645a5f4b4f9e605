-- How many bytes a message takes as a frame: a length number and a body of that length. Numbers have 1, 2, 4 or 8
-- bytes; a list is its count and its items.
use Rattle.std.specs.Prelude.{ℕ, ◌+◌, ◌-◌, ◌*◌, ◌^◌, min, nat_lt, if◌then◌else◌, List, length, map, sum}
use Rattle.nim_base.specs.declared.task.Param.{Param}
use Rattle.nim_base.specs.declared.task.Param.TheVariants.{Const, Arg}
use Rattle.nim_base.specs.Value.{Grid}
use Rattle.nim_command.specs.declared.command.Command.{Command}
use Rattle.nim_command.specs.declared.command.Kind.{Kind}
use Rattle.nim_command.specs.declared.edit.Edit.{Edit}
use Rattle.nim_command.specs.declared.edit.Spec.{Spec}
use Rattle.nim_command.specs.declared.entry.Entry.{Entry}
use Rattle.nim_command.specs.declared.entry.EntryKind.{EntryKind}
use Rattle.nim_message.specs.declared.frame.Data.{Data}
use Rattle.nim_message.specs.declared.message.Message.{Message}
use Rattle.nim_message.specs.declared.order.ToWorker.{ToWorker}
use Rattle.nim_message.specs.declared.report.FromWorker.{FromWorker}

-- what a count of 64 bits says: the greatest number where it would be more
abbrev pub capped : ℕ → ℕ
capped n = min n (2 ^ 64 - 1)

-- width, rows, and the cells row by row
abbrev pub value_bytes : Grid → ℕ
value_bytes value = 8 + 8 * (length value.rows * value.width)

-- a list with a count of so many bytes and items of so many
abbrev pub list_bytes : ℕ → ℕ → ℕ → ℕ
list_bytes count each items = count + each * items

-- the fields of a command, as its kind has them
abbrev pub kind_bytes : Kind → ℕ
kind_bytes (Kind.Create slot iota number) = 11
kind_bytes (Kind.Load slot version value) = 10 + value_bytes value
kind_bytes (Kind.Send slot peer entry) = 7
kind_bytes (Kind.Receive slot version) = 10
kind_bytes (Kind.Copy from to) = 4
kind_bytes (Kind.Run position func params reads writes) =
    9 + list_bytes 1 8 (length params) + list_bytes 1 2 (length reads) + list_bytes 1 2 (length writes)
kind_bytes (Kind.Fetch slot ticket) = 6

-- number, kind, fields, and the before set
abbrev pub command_bytes : Command → ℕ
command_bytes command = 5 + kind_bytes command.kind + list_bytes 2 4 (length command.before)

-- a constant, or the number of an argument
abbrev pub param_bytes : Param → ℕ
param_bytes (Const number) = 9
param_bytes (Arg place) = 2

-- parameters one after another, behind a count of one byte
abbrev pub params_bytes : List Param → ℕ
params_bytes params = 1 + sum (map param_bytes params)

-- the fields of an entry, as its kind has them
abbrev pub entry_kind_bytes : EntryKind → ℕ
entry_kind_bytes (EntryKind.Send slot peer entry) = 7
entry_kind_bytes (EntryKind.Receive slot offset) = 4
entry_kind_bytes (EntryKind.Copy from to) = 4
entry_kind_bytes (EntryKind.Run func params reads writes) =
    1 + params_bytes params + list_bytes 1 2 (length reads) + list_bytes 1 2 (length writes)

-- an entry of a template: number, kind, fields, and the before set
abbrev pub entry_bytes : Entry → ℕ
entry_bytes entry = 5 + entry_kind_bytes entry.kind + list_bytes 2 4 (length entry.before)

-- a moved task: function, parameters, the objects that it reads with their offsets, and those that it writes
abbrev pub spec_bytes : Spec → ℕ
spec_bytes spec =
    1 + params_bytes spec.params + list_bytes 1 4 (length spec.reads) + list_bytes 1 2 (length spec.writes)

-- kind, task, and where the edit has them a worker, a mask and the moved task
abbrev pub edit_bytes : Edit → ℕ
edit_bytes (Edit.Away task to mask spec) = 5 + spec_bytes spec
edit_bytes (Edit.Here task from mask spec) = 5 + spec_bytes spec
edit_bytes (Edit.Gone task) = 3
edit_bytes (Edit.Home task spec) = 3 + spec_bytes spec

-- the body of an order, its kind first
abbrev pub order_body : ToWorker → ℕ
order_body (ToWorker.Single epoch instance commands) = 11 + sum (map command_bytes commands)
order_body (ToWorker.InstallTemplate epoch block entries) = 10 + sum (map entry_bytes entries)
order_body (ToWorker.Instantiate epoch instance block base args versions edits) =
    18 + list_bytes 1 8 (length args) + list_bytes 2 8 (length versions) + (1 + sum (map edit_bytes edits))
order_body (ToWorker.InstallPatch epoch patch copies) = 6 + list_bytes 2 6 (length copies)
order_body (ToWorker.RunPatch epoch instance patch versions) = 10 + list_bytes 2 8 (length versions)
order_body (ToWorker.Reset epoch worker workers shapes) = 7 + list_bytes 2 8 (length shapes)
order_body ToWorker.Stop = 1

-- the body of a report, its kind first
abbrev pub report_body : FromWorker → ℕ
report_body (FromWorker.Value epoch ticket object version value) = 19 + value_bytes value
report_body (FromWorker.Ran epoch position reads) = 13 + list_bytes 1 10 (length reads)
report_body (FromWorker.Through epoch instance) = 9
report_body FromWorker.NoMemory = 1
report_body (FromWorker.PeerDown peer) = 2

-- the body of a frame of data: kind, epoch, instance, entry, object, version, and the value
abbrev pub data_body : Data → ℕ
data_body frame = 23 + value_bytes frame.value

-- what follows the length number of any message
abbrev pub message_body : Message → ℕ
message_body (Message.Order order) = order_body order
message_body (Message.Report report) = report_body report
message_body (Message.Data frame) = data_body frame

-- the bytes of a length number of 64 bits, seven bits a byte
abbrev pub number_bytes : ℕ → ℕ
number_bytes n =
    if nat_lt n (2 ^ 7) then 1
    else if nat_lt n (2 ^ 14) then 2
    else if nat_lt n (2 ^ 21) then 3
    else if nat_lt n (2 ^ 28) then 4
    else if nat_lt n (2 ^ 35) then 5
    else if nat_lt n (2 ^ 42) then 6
    else if nat_lt n (2 ^ 49) then 7
    else if nat_lt n (2 ^ 56) then 8
    else if nat_lt n (2 ^ 63) then 9
    else 10

-- the length of an order's frame, the length number with it
abbrev pub order_length_of : ToWorker → ℕ
order_length_of order = capped (number_bytes (capped (order_body order)) + order_body order)

-- the same of a report
abbrev pub report_length_of : FromWorker → ℕ
report_length_of report = capped (number_bytes (capped (report_body report)) + report_body report)
