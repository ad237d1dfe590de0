-- The numbers and places of document 01 for every end and refusal. Assumes nothing.
use Rattle.std.specs.Prelude.{ℕ}
use Rattle.rules.specs.declared.Stop.{Stop}
use Rattle.rules.specs.declared.Stop.TheVariants.{AssignTag, StoreTag, EmitTag, Index, Divisor, Room, Frames}
use Rattle.rules.specs.declared.Refusal.{Refusal}
use Rattle.rules.specs.declared.Refusal.TheVariants.{RecipeLength, RecipeMark, RecipeVersion, RecipeHeader, BadExpression, WideExpression, BadStatement, PolicyHeader, PolicyEntry, PolicyLaw, BadPort, MemoryLength, MemoryTag, HouseRoom, ReportRoom}
use Rattle.rules.specs.declared.End.{End}
use Rattle.rules.specs.declared.End.TheVariants.{Done, Budget, Stopped, Refused}

unfoldable pub stop_number : Stop → ℕ
stop_number AssignTag = 2
stop_number StoreTag = 3
stop_number EmitTag = 4
stop_number Index = 5
stop_number Divisor = 6
stop_number Room = 7
stop_number Frames = 8

unfoldable pub refusal_number : Refusal → ℕ
refusal_number RecipeLength = 16
refusal_number RecipeMark = 17
refusal_number RecipeVersion = 18
refusal_number RecipeHeader = 19
refusal_number (BadExpression e) = 20
refusal_number (WideExpression e) = 21
refusal_number (BadStatement s) = 22
refusal_number PolicyHeader = 23
refusal_number (PolicyEntry i) = 24
refusal_number PolicyLaw = 25
refusal_number (BadPort s) = 26
refusal_number MemoryLength = 27
refusal_number (MemoryTag i) = 28
refusal_number HouseRoom = 29
refusal_number ReportRoom = 30

-- the record's number for 20, 21, 22 and 26, the byte offset for 24, the place number for 28, else 0
unfoldable pub refusal_place : Refusal → ℕ
refusal_place (BadExpression e) = e
refusal_place (WideExpression e) = e
refusal_place (BadStatement s) = s
refusal_place (PolicyEntry i) = i
refusal_place (BadPort s) = s
refusal_place (MemoryTag i) = i
refusal_place RecipeLength = 0
refusal_place RecipeMark = 0
refusal_place RecipeVersion = 0
refusal_place RecipeHeader = 0
refusal_place PolicyHeader = 0
refusal_place PolicyLaw = 0
refusal_place MemoryLength = 0
refusal_place HouseRoom = 0
refusal_place ReportRoom = 0

unfoldable pub end_number : End → ℕ
end_number Done = 0
end_number Budget = 1
end_number (Stopped h s) = stop_number h
end_number (Refused x) = refusal_number x

-- the statement carried out, for an early end
unfoldable pub end_place : End → ℕ
end_place Done = 0
end_place Budget = 0
end_place (Stopped h s) = s
end_place (Refused x) = refusal_place x
