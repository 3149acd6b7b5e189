-- What a memory form was made with, and what it counted.
use Rattle.std.specs.Prelude.{ℕ, List}
use Rattle.work_text.specs.declared.fault_plan.FaultPlan.{FaultPlan}
use Rattle.work_text.specs.Documents.{left_at}
use Rattle.work_text.specs.declared.memory_shelf.MemoryShelf.{MemoryShelf}
use Rattle.work_text.specs.declared.memory_sink.MemorySink.{MemorySink}

-- which calls fail, and how many calls and faults there were
abbrev pub shelf_plan : MemoryShelf → FaultPlan
shelf_plan shelf = shelf.plan

-- names and bytes
abbrev pub shelf_documents : MemoryShelf → List (List ℕ × List ℕ)
shelf_documents shelf = shelf.documents.items

-- what is left of the document that is being read
abbrev pub shelf_left : MemoryShelf → List ℕ
shelf_left shelf = left_at shelf.documents.items shelf.number shelf.at

abbrev pub sink_plan : MemorySink → FaultPlan
sink_plan sink = sink.plan

-- all bytes that were taken so far
abbrev pub sink_taken : MemorySink → List ℕ
sink_taken sink = sink.taken.items

-- how many bytes a write takes at the most
abbrev pub sink_step : MemorySink → ℕ
sink_step sink = sink.step
