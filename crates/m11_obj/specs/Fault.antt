-- The numbers and names of the faults of records. (This project's own.)
use Rattle.std.specs.Prelude.{ℕ, codes}
use Rattle.m11_base.specs.Devices.{Bytes}
use Rattle.m11_obj.specs.declared.fault.RecordFault.{RecordFault}
use Rattle.m11_obj.specs.declared.fault.RecordFault.TheVariants.{UnknownType, BadLength, Library, MappedArray, Complex, UnknownRelocation, BadName}

abbrev pub record_fault_number : RecordFault → ℕ
record_fault_number UnknownType = 1
record_fault_number BadLength = 2
record_fault_number Library = 3
record_fault_number MappedArray = 4
record_fault_number Complex = 5
record_fault_number UnknownRelocation = 6
record_fault_number BadName = 7

abbrev pub record_fault_name : RecordFault → Bytes
record_fault_name UnknownType = codes "UnknownType"
record_fault_name BadLength = codes "BadLength"
record_fault_name Library = codes "Library"
record_fault_name MappedArray = codes "MappedArray"
record_fault_name Complex = codes "Complex"
record_fault_name UnknownRelocation = codes "UnknownRelocation"
record_fault_name BadName = codes "BadName"
