-- The four parts of each refusal: number, layer, root, place.
use Rattle.store.specs.declared.fault.Report.{Report}
use Rattle.store.specs.declared.fault.SetupFault.{SetupFault}
use Rattle.store.specs.declared.fault.SetupFault.TheVariants.{TableSize}
use Rattle.store.specs.declared.fault.StoreFault.{StoreFault}
use Rattle.store.specs.declared.fault.StoreFault.TheVariants.{NoCell}

abbrev pub setup_report : SetupFault → Report
setup_report TableSize = record { number = 1; layer = 2; root = 255; place = 65535 }

abbrev pub store_report : StoreFault → Report
store_report NoCell = record { number = 22; layer = 1; root = 255; place = 65535 }
