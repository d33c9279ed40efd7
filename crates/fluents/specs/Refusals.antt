-- The number and the layer of each refusal. Assumes nothing.
use Rattle.std.specs.Prelude.{ℕ, List, ◌++◌, codes, decimal}
use Rattle.fluents.specs.declared.faults.Refusal.{Refusal}
use Rattle.fluents.specs.declared.faults.Refusal.TheVariants.{Incomplete, WrongSum, UnexpectedKind, UnfitLength, BadField, BadPlan, TooManyReadings, TooManyActions, TooManyRows, Contradiction, VerdictFails}
use Rattle.fluents.specs.declared.faults.Fault.{Fault}
use Rattle.fluents.specs.declared.faults.Layer.{Layer}
use Rattle.fluents.specs.declared.faults.Layer.TheVariants.{Frame, Procedure, Plan, Rows, Run}

-- the number that stands for a refusal wherever one is printed
abbrev pub number_of : Refusal → ℕ
number_of Incomplete = 1
number_of WrongSum = 2
number_of UnexpectedKind = 3
number_of UnfitLength = 4
number_of BadField = 5
number_of BadPlan = 6
number_of TooManyReadings = 7
number_of TooManyActions = 8
number_of TooManyRows = 9
number_of Contradiction = 10
number_of VerdictFails = 11

-- what a refusal is about
abbrev pub layer_of : Refusal → Layer
layer_of Incomplete = Frame
layer_of WrongSum = Frame
layer_of UnexpectedKind = Frame
layer_of UnfitLength = Frame
layer_of TooManyActions = Frame
layer_of BadField = Procedure
layer_of BadPlan = Plan
layer_of TooManyReadings = Plan
layer_of TooManyRows = Rows
layer_of Contradiction = Run
layer_of VerdictFails = Run

-- the fault that names a refusal and a place
abbrev pub fault_at : Refusal → ℕ → Fault
fault_at why place = record { refusal = why; place = place }

-- `refused NUMBER PLACE`, in decimal
abbrev pub fault_text : Fault → List ℕ
fault_text fault = codes "refused " ++ (decimal (number_of fault.refusal) ++ (codes " " ++ decimal fault.place))
