-- The four parts of each fault of a rule.
use Rattle.std.specs.Prelude.{ℕ}
use Rattle.store.specs.declared.fault.Report.{Report}
use Rattle.rule.specs.declared.fault.Flaw.{Flaw}
use Rattle.rule.specs.declared.fault.Flaw.TheVariants.{TooMany, Cut, Kind, Length, Trailing, TooDeep, NoSuchRoot, NoSuchSlot, LinksUnfit, NotOwned, RootEmpty, RootInUse, NotAsDeclared}
use Rattle.rule.specs.declared.fault.RuleFault.{RuleFault}
use Rattle.rule.specs.declared.fault.RuleFault.TheVariants.{TooLong, Flawed}

abbrev pub parts : ℕ → ℕ → ℕ → Report
parts number root place = record { number = number; layer = 3; root = root; place = place }

abbrev pub flaw_report : Flaw → ℕ → Report
flaw_report TooMany p = parts 5 255 p
flaw_report Cut p = parts 6 255 p
flaw_report Kind p = parts 7 255 p
flaw_report Length p = parts 8 255 p
flaw_report Trailing p = parts 9 255 p
flaw_report TooDeep p = parts 10 255 p
flaw_report (NoSuchRoot r) p = parts 2 r p
flaw_report NoSuchSlot p = parts 11 255 p
flaw_report LinksUnfit p = parts 3 255 p
flaw_report (NotOwned r) p = parts 12 r p
flaw_report (RootEmpty r) p = parts 13 r p
flaw_report (RootInUse r) p = parts 14 r p
flaw_report (NotAsDeclared r) p = parts 15 r p

abbrev pub rule_report : RuleFault → Report
rule_report TooLong = parts 4 255 0
rule_report (Flawed s) = flaw_report s.flaw s.place
