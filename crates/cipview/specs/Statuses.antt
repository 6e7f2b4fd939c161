-- The exit status of the program.
use Rattle.std.specs.Prelude.{ℕ}
use Rattle.cip_read.specs.declared.fault.ReadFault.{ReadFault}
use Rattle.cip_read.specs.declared.fault.ReadFault.TheVariants as reads
use Rattle.cip_topology.specs.declared.fault.LoadFault.{LoadFault}
use Rattle.cip_topology.specs.declared.fault.LoadFault.TheVariants as loads
use Rattle.cipview.specs.declared.options.Usage.{Usage}
use Rattle.cipview.specs.declared.options.Usage.TheVariants as usages
use Rattle.cipview.specs.declared.options.OptionsFault.{OptionsFault}
use Rattle.cipview.specs.declared.options.OptionsFault.TheVariants as options
use Rattle.cipview.specs.declared.fault.Fault.{Fault}
use Rattle.cipview.specs.declared.fault.Fault.TheVariants as faults

-- a text that was asked for is no fault
abbrev pub of_usage : Usage → ℕ
of_usage usages.Wrong = 2
of_usage usage = 0

abbrev pub of_options : OptionsFault → ℕ
of_options (options.Usage usage) = of_usage usage
of_options options.NoMemory = 5

abbrev pub of_load : LoadFault → ℕ
of_load loads.NoMemory = 5
of_load fault = 3

abbrev pub of_read : ReadFault → ℕ
of_read reads.NoMemory = 5
of_read fault = 1

-- 1 for the transcript, 2 for the options, 3 for the topology, 4 for reading and writing, 5 where
-- memory ran out, 141 where nobody reads what is shown
abbrev pub status_of : Fault → ℕ
status_of (faults.Options fault) = of_options fault
status_of (faults.Usage why) = 2
status_of (faults.Module name names) = 2
status_of (faults.PastEnd k n) = 2
status_of (faults.NoEntry k) = 2
status_of (faults.Topology told) = 3
status_of (faults.NotText file why) = 3
status_of (faults.Read file why) = 4
status_of (faults.Transcript fault) = of_read fault
status_of (faults.Stranger fault names) = 1
status_of faults.NoLine = 1
status_of faults.Write = 4
status_of faults.Unwanted = 141
status_of faults.NoMemory = 5
