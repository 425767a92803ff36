-- The numbers of the faults, which are the statuses of the program.
use Rattle.std.specs.Prelude.{ℕ}
use Rattle.zr_kinds.specs.declared.fault.Fault.{Fault, TheVariants.{Memory, Usage, NotPcap, Version, LinkType, Cut, LongRecord, Read, Write, TooManyFlows}}
use Rattle.zr_kinds.specs.declared.fault.Fault.TheVariants.{TooManyFrames, BadBlock, BadRun}

abbrev pub number_of : Fault → ℕ
number_of Memory = 1
number_of Usage = 2
number_of NotPcap = 3
number_of Version = 4
number_of LinkType = 5
number_of Cut = 6
number_of LongRecord = 7
number_of Read = 8
number_of Write = 9
number_of TooManyFlows = 10
number_of TooManyFrames = 11
number_of BadBlock = 13
number_of BadRun = 14
