-- The four parts of each refusal of a bench.
use Rattle.store.specs.declared.fault.Report.{Report}
use Rattle.store.specs.Reports.{store_report}
use Rattle.bench.specs.declared.fault.NoSuchRoot as absent
use Rattle.bench.specs.declared.fault.TouchFault.{TouchFault}
use Rattle.bench.specs.declared.fault.TouchFault.TheVariants.{Empty, InUse}
use Rattle.bench.specs.declared.fault.BenchFault.{BenchFault}
use Rattle.bench.specs.declared.fault.BenchFault.TheVariants.{NoSuchRoot, LinksUnfit, RootEmpty, RootInUse, Store}

-- a field that names no root, as a refusal of the call
abbrev pub field_told : absent.NoSuchRoot → BenchFault
field_told e = NoSuchRoot e.0

-- a root that is refused, as a refusal of the call
abbrev pub touch_told : TouchFault → BenchFault
touch_told (Empty r) = RootEmpty r
touch_told (InUse r) = RootInUse r

abbrev pub bench_report : BenchFault → Report
bench_report (NoSuchRoot r) = record { number = 2; layer = 2; root = r; place = 65535 }
bench_report LinksUnfit = record { number = 3; layer = 2; root = 255; place = 65535 }
bench_report (RootEmpty r) = record { number = 20; layer = 2; root = r; place = 65535 }
bench_report (RootInUse r) = record { number = 21; layer = 2; root = r; place = 65535 }
bench_report (Store w) = record { number = (store_report w.fault).number; layer = (store_report w.fault).layer; root = w.root; place = 65535 }
