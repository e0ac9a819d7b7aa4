-- Why the text of a new record is refused.
use Rattle.rec_text.specs.declared.fault.Fault.{Fault}
use Rattle.rec_text.specs.declared.fault.Fault.TheVariants.{OutOfMemory, BadRecord}

-- a text that can't be read holds no record, whatever is wrong with it
abbrev pub cause_of : Fault → Fault
cause_of OutOfMemory = OutOfMemory
cause_of _ = BadRecord
