-- Which messages have a frame: their numbers are in range, the counts of tasks are those of their functions, lists are
-- as long as their counts can say, and the body isn't too long.
use Rattle.std.specs.Prelude.{ℕ, ◌*◌, nat_lt, nat_le, Bool, true, ◌&&◌, length}
use Rattle.std.specs.List.{list_all}
use Rattle.nim_base.specs.declared.number.Object.{Object}
use Rattle.nim_base.specs.declared.number.Shape.{Shape}
use Rattle.nim_base.specs.declared.number.Slot.{Slot}
use Rattle.nim_base.specs.declared.number.Worker.{Worker}
use Rattle.nim_base.specs.declared.task.Param.{Param}
use Rattle.nim_base.specs.declared.task.Param.TheVariants.{Const, Arg}
use Rattle.nim_base.specs.Apply.{has_counts}
use Rattle.nim_base.specs.Value.{Grid}
use Rattle.nim_command.specs.declared.command.Command.{Command}
use Rattle.nim_command.specs.declared.command.Kind.{Kind}
use Rattle.nim_command.specs.declared.edit.Edit.{Edit}
use Rattle.nim_command.specs.declared.edit.PatchPart.{PatchPart}
use Rattle.nim_command.specs.declared.edit.Spec.{Spec}
use Rattle.nim_command.specs.declared.entry.Entry.{Entry}
use Rattle.nim_command.specs.declared.entry.EntryKind.{EntryKind}
use Rattle.nim_message.specs.declared.frame.Data.{Data}
use Rattle.nim_message.specs.declared.message.Message.{Message}
use Rattle.nim_message.specs.declared.order.ToWorker.{ToWorker}
use Rattle.nim_message.specs.declared.report.FromWorker.{FromWorker}
use Rattle.nim_message.specs.Lengths.{message_body}

-- one of the 1,024 slots of a worker, two an object
abbrev pub is_slot : Slot → Bool
is_slot slot = nat_lt slot.0 1024

-- one of the 512 objects that a job may have
abbrev pub is_object : Object → Bool
is_object object = nat_lt object.0 512

-- one of the 16 workers that there may be
abbrev pub is_worker : Worker → Bool
is_worker worker = nat_lt worker.0 16

-- a width of 1 or more, and at most so many rows and cells
abbrev pub are_sizes : ℕ → ℕ → Bool
are_sizes width rows = nat_le 1 width && nat_le rows 65536 && nat_le (width * rows) 65536

-- a value within the bounds of width, rows and cells
abbrev pub is_value : Grid → Bool
is_value value = are_sizes value.width (length value.rows)

-- a shape within the bounds of width, rows and cells
abbrev pub is_shape : Shape → Bool
is_shape shape = are_sizes shape.width shape.rows

-- a count of 16 bits can say the length
abbrev pub is_counted : ℕ → Bool
is_counted items = nat_lt items 65536

-- a command's slots, worker and value are in range, and a Run has its function's counts
abbrev pub is_kind : Kind → Bool
is_kind (Kind.Create slot iota number) = is_slot slot
is_kind (Kind.Load slot version value) = is_slot slot && is_value value
is_kind (Kind.Send slot peer entry) = is_slot slot && is_worker peer
is_kind (Kind.Receive slot version) = is_slot slot
is_kind (Kind.Copy from to) = is_slot from && is_slot to
is_kind (Kind.Run position func params reads writes) =
    has_counts func (length params) (length reads) (length writes) && list_all is_slot reads && list_all is_slot writes
is_kind (Kind.Fetch slot ticket) = is_slot slot

-- a command's fields are in range, and a count can say the length of its before set
abbrev pub is_command : Command → Bool
is_command command = is_kind command.kind && is_counted (length command.before)

-- a number, or one of the 8 arguments that a block may have
abbrev pub is_param : Param → Bool
is_param (Const number) = true
is_param (Arg place) = nat_lt place 8

-- an entry's slots, worker, offset and parameters are in range, and a Run has its function's counts
abbrev pub is_entry_kind : EntryKind → Bool
is_entry_kind (EntryKind.Send slot peer entry) = is_slot slot && is_worker peer
is_entry_kind (EntryKind.Receive slot offset) = is_slot slot && nat_le offset 1024
is_entry_kind (EntryKind.Copy from to) = is_slot from && is_slot to
is_entry_kind (EntryKind.Run func params reads writes) =
    has_counts func (length params) (length reads) (length writes) && list_all is_param params && list_all is_slot reads
    && list_all is_slot writes

-- an entry's fields are in range, and a count can say the length of its before set
abbrev pub is_entry : Entry → Bool
is_entry entry = is_entry_kind entry.kind && is_counted (length entry.before)

-- an object with the offset of a version
abbrev pub is_offset_read : Object × ℕ → Bool
is_offset_read read = is_object read.0 && nat_le read.1 1024

-- a moved task has its function's counts, and its parameters, objects and offsets are in range
abbrev pub is_spec : Spec → Bool
is_spec spec =
    has_counts spec.func (length spec.params) (length spec.reads) (length spec.writes) && list_all is_param spec.params
    && list_all is_offset_read spec.reads && list_all is_object spec.writes

-- one of the 1,024 tasks that a block may have
abbrev pub is_task : ℕ → Bool
is_task task = nat_lt task 1024

-- the task of an edit is in range, and so are its worker and the moved task where it has them
abbrev pub is_edit : Edit → Bool
is_edit (Edit.Away task to mask spec) = is_task task && is_worker to && is_spec spec
is_edit (Edit.Here task from mask spec) = is_task task && is_worker from && is_spec spec
is_edit (Edit.Gone task) = is_task task
is_edit (Edit.Home task spec) = is_task task && is_spec spec

-- one end of a copy of a patch: its number, its object and the worker at the other end are in range
abbrev pub is_part : PatchPart → Bool
is_part part = nat_le part.number 8191 && is_object part.object && is_worker part.peer

-- one of the 32 blocks that a job may have
abbrev pub is_block : ℕ → Bool
is_block block = nat_lt block 32

-- one of the 64 numbers that patches have
abbrev pub is_patch : ℕ → Bool
is_patch patch = nat_lt patch 64

-- the fields of an order; a count of entries has 32 bits
abbrev pub is_order : ToWorker → Bool
is_order (ToWorker.Single epoch instance commands) = is_counted (length commands) && list_all is_command commands
is_order (ToWorker.InstallTemplate epoch block entries) =
    is_block block && nat_lt (length entries) 4294967296 && list_all is_entry entries
is_order (ToWorker.Instantiate epoch instance block base args versions edits) =
    is_block block && nat_le (length args) 8 && is_counted (length versions) && nat_le (length edits) 4
    && list_all is_edit edits
is_order (ToWorker.InstallPatch epoch patch copies) =
    is_patch patch && nat_le (length copies) 8191 && list_all is_part copies
is_order (ToWorker.RunPatch epoch instance patch versions) = is_patch patch && is_counted (length versions)
is_order (ToWorker.Reset epoch worker workers shapes) =
    is_worker worker && nat_le 1 workers && nat_le workers 16 && is_counted (length shapes) && list_all is_shape shapes
is_order ToWorker.Stop = true

-- an object with a version
abbrev pub is_version_read : Object × ℕ → Bool
is_version_read read = is_object read.0

-- the objects, the value and the worker of a report are in range, and a task read at most 8 objects
abbrev pub is_report : FromWorker → Bool
is_report (FromWorker.Value epoch ticket object version value) = is_object object && is_value value
is_report (FromWorker.Ran epoch position reads) = nat_le (length reads) 8 && list_all is_version_read reads
is_report (FromWorker.Through epoch instance) = true
is_report FromWorker.NoMemory = true
is_report (FromWorker.PeerDown peer) = is_worker peer

-- the object and the value of a frame of data are in range; all its other numbers may be any
abbrev pub is_data : Data → Bool
is_data frame = is_object frame.object && is_value frame.value

-- the fields of a message are in range, however long it is
abbrev pub has_fields : Message → Bool
has_fields (Message.Order order) = is_order order
has_fields (Message.Report report) = is_report report
has_fields (Message.Data frame) = is_data frame

-- a message has a frame
abbrev pub is_in_range : Message → Bool
is_in_range message = has_fields message && nat_le (message_body message) 1048576
