-- The table of a store, as the steps speak of it.
use Rattle.store.specs.declared.table.Table.{Table}
use Rattle.store.specs.Heap.{Heap}

abbrev pub heap : Table → Heap
heap t = record { cells = t.cells.now; free = t.free }
