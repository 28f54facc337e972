-- Which cell a make or a rebuild on the table of counted cells gives, and when it is refused.
use Rattle.std.specs.Prelude.{◌≡◌, ◌⊎◌, Some, None, Ok, Err, Result, ◌≢◌}
use Rattle.store.specs.declared.hold.Hold.{Hold}
use Rattle.store.specs.declared.hold.Links.{Links}
use Rattle.store.specs.declared.fault.Refused.{Refused}
use Rattle.store.specs.declared.fault.RefusedRebuild.{RefusedRebuild}
use Rattle.store.specs.declared.fault.StoreFault.TheVariants.{NoCell}
use Rattle.store.specs.Heap.{Heap, cell}

-- the first free cell, or want of one
abbrev pub MakeAnswer : Heap → Links → Result Hold Refused → Type 0
MakeAnswer h l (Ok x) = h.free ≡ Some x.cell
MakeAnswer h l (Err e) = (h.free ≡ None) × (e ≡ record { links = l; fault = NoCell })

-- the old cell where its count is 1, else the first free cell
abbrev pub RebuildAnswer : Heap → Hold → Links → Result Hold RefusedRebuild → Type 0
RebuildAnswer h old l (Ok x) = (((cell h old.cell).count ≡ 1) × (x.cell ≡ old.cell)) ⊎ (((cell h old.cell).count ≢ 1) × (h.free ≡ Some x.cell))
RebuildAnswer h old l (Err e) = ((cell h old.cell).count ≢ 1) × (h.free ≡ None) × (e ≡ record { old = old; links = l; fault = NoCell })
