-- Document 01's bench examples P1 to P13 as one table of rows, and directed rows for the errors that those do not show.
-- Every row is bytes and goes through the whole machine. Assumes nothing.
use Rattle.std.specs.Prelude.{ℕ, List, [], ◌∷◌, ◌++◌}
use Rattle.rules.specs.Ends.{end_number, end_place}
use Rattle.rules.specs.declared.End.{End}
use Rattle.rules.specs.declared.End.TheVariants.{Done, Budget}
use Rattle.rules.specs.Judged.{Judged, outcome_of, judged, Hosted, hosted}

-- ---- policies and recipes

unfoldable pub two_tags : List ℕ
two_tags = 0x52 ∷ 0x4A ∷ 0x50 ∷ 1 ∷ 0 ∷ 0 ∷ 2 ∷ 2 ∷ 0 ∷ 1 ∷ 1 ∷ 1 ∷ 0 ∷ 1 ∷ []

-- the countdown, as document 01 has it
unfoldable pub countdown : List ℕ
countdown =
    0x52 ∷ 0x4A ∷ 0x52 ∷ 1 ∷ 0 ∷ 0 ∷ 3 ∷ 0 ∷ 2 ∷ 0 ∷ 1 ∷ 0 ∷ 0 ∷ 0 ∷ 0 ∷ 0
    ∷ 2 ∷ 0 ∷ 0 ∷ 0 ∷ 0 ∷ 0 ∷ 0 ∷ 0
    ∷ 1 ∷ 0 ∷ 0 ∷ 0 ∷ 1 ∷ 0 ∷ 0 ∷ 0
    ∷ 5 ∷ 1 ∷ 0 ∷ 0 ∷ 1 ∷ 0 ∷ 0 ∷ 0
    ∷ 1 ∷ 0 ∷ 0 ∷ 0 ∷ 2 ∷ 0 ∷ 0 ∷ 0
    ∷ 5 ∷ 0 ∷ 0 ∷ 0 ∷ 0 ∷ 0 ∷ 0 ∷ 0 ∷ []

unfoldable pub table : (exprs stmts vars cells : ℕ) → List ℕ → List ℕ
table e s v m records = 0x52 ∷ 0x4A ∷ 0x52 ∷ 1 ∷ 0 ∷ 0 ∷ e ∷ 0 ∷ s ∷ 0 ∷ v ∷ 0 ∷ m ∷ 0 ∷ 0 ∷ 0 ∷ records

-- records of small numbers
unfoldable pub a_constant : ℕ → List ℕ
a_constant w = 1 ∷ 0 ∷ 0 ∷ 0 ∷ w ∷ 0 ∷ 0 ∷ 0 ∷ []

unfoldable pub a_variable : ℕ → List ℕ
a_variable x = 2 ∷ 0 ∷ x ∷ 0 ∷ 0 ∷ 0 ∷ 0 ∷ 0 ∷ []

unfoldable pub a_binary : (operator a b : ℕ) → List ℕ
a_binary operator a b = 5 ∷ operator ∷ a ∷ 0 ∷ b ∷ 0 ∷ 0 ∷ 0 ∷ []

unfoldable pub a_skip : List ℕ
a_skip = 0 ∷ 0 ∷ 0 ∷ 0 ∷ 0 ∷ 0 ∷ 0 ∷ 0 ∷ []

unfoldable pub a_statement : (kind a b c : ℕ) → List ℕ
a_statement kind a b c = kind ∷ 0 ∷ a ∷ 0 ∷ b ∷ 0 ∷ c ∷ 0 ∷ []

unfoldable pub an_emit : (port e : ℕ) → List ℕ
an_emit port e = 6 ∷ port ∷ e ∷ 0 ∷ 0 ∷ 0 ∷ 0 ∷ 0 ∷ []

-- if h then x := 1 else skip
unfoldable pub guess : List ℕ
guess = table 2 3 2 0 (a_variable 0 ++ a_constant 1 ++ a_skip ++ a_statement 1 1 1 0 ++ a_statement 4 0 1 0)

-- emit variable 0 on the port
unfoldable pub say : (port : ℕ) → List ℕ
say port = table 1 1 1 0 (a_variable 0 ++ an_emit port 0)

-- variable 0 := variable 0 with the operator and variable 1
unfoldable pub reckon : (operator : ℕ) → List ℕ
reckon operator = table 3 1 2 0 (a_variable 0 ++ a_variable 1 ++ a_binary operator 0 1 ++ a_statement 1 0 2 0)

-- while x do (y := 1 then x := h), with x, y and h the variables 0, 1 and 2
unfoldable pub learn : List ℕ
learn = table 3 4 3 0
    (a_variable 0 ++ a_variable 2 ++ a_constant 1 ++ a_statement 1 1 2 0 ++ a_statement 1 0 1 0 ++ a_statement 3 0 1 0 ++ a_statement 5 0 2 0)

-- the countdown of variable 0, then variable 1 := 1
unfoldable pub after : List ℕ
after = table 3 4 2 0
    (a_variable 0 ++ a_constant 1 ++ a_binary 1 0 1 ++ a_statement 1 0 2 0 ++ a_statement 5 0 0 0 ++ a_statement 1 1 1 0 ++ a_statement 3 1 2 0)

-- if variable 0 then emit 1 on port 0 else emit 2 on port 0
unfoldable pub chooser : List ℕ
chooser = table 3 3 1 0 (a_variable 0 ++ a_constant 1 ++ a_constant 2 ++ an_emit 0 1 ++ an_emit 0 2 ++ a_statement 4 0 0 1)

-- an expression adding its predecessor to itself eight times over, spread 511, and a skip
unfoldable pub doubled : List ℕ
doubled = table 9 1 0 0
    (a_constant 1 ++ a_binary 0 0 0 ++ a_binary 0 1 1 ++ a_binary 0 2 2 ++ a_binary 0 3 3 ++ a_binary 0 4 4 ++ a_binary 0 5 5
    ++ a_binary 0 6 6 ++ a_binary 0 7 7 ++ a_skip)

-- the countdown by twos
unfoldable pub by_twos : List ℕ
by_twos = table 3 2 1 0 (a_variable 0 ++ a_constant 2 ++ a_binary 1 0 1 ++ a_statement 1 0 2 0 ++ a_statement 5 0 0 0)

-- ---- rows

-- end, place, steps, count of records, memory and record room
pub data Answer : Type 0 where
  is : (end place steps records : ℕ) (memory room : List ℕ) → Answer

unfoldable pub answer_of : Judged → Answer
answer_of x = is (end_number x.outcome.end) (end_place x.outcome.end) x.outcome.steps x.outcome.records x.memory x.room

pub data Row : Type 0 where
  row : (recipe memory room : List ℕ) (budget : ℕ) (answer : Answer) → Row

abbrev pub answer : Row → Answer
answer (row r m q budget a) = a

abbrev pub machine_says : Row → Answer
machine_says (row r m q budget a) = answer_of (judged r two_tags m q budget)

unfoldable pub bench_rows : List Row
bench_rows =
    -- P1 to P4: the countdown
    row countdown (2 ∷ 0 ∷ 0 ∷ 0 ∷ 0 ∷ []) [] 5 (is 0 0 5 0 (0 ∷ 0 ∷ 0 ∷ 0 ∷ 0 ∷ []) [])
    ∷ row countdown (2 ∷ 0 ∷ 0 ∷ 0 ∷ 0 ∷ []) [] 4 (is 1 0 4 0 (0 ∷ 0 ∷ 0 ∷ 0 ∷ 0 ∷ []) [])
    ∷ row countdown (0 ∷ 0 ∷ 0 ∷ 0 ∷ 0 ∷ []) [] 5 (is 0 0 1 0 (0 ∷ 0 ∷ 0 ∷ 0 ∷ 0 ∷ []) [])
    ∷ row countdown (2 ∷ 0 ∷ 0 ∷ 0 ∷ 1 ∷ []) [] 5 (is 0 0 5 0 (0 ∷ 0 ∷ 0 ∷ 0 ∷ 1 ∷ []) [])
    -- P5 to P7: if h then x := 1 else skip
    ∷ row guess (1 ∷ 0 ∷ 0 ∷ 0 ∷ 1 ∷ 0 ∷ 0 ∷ 0 ∷ 0 ∷ 0 ∷ []) [] 9 (is 2 1 2 0 (1 ∷ 0 ∷ 0 ∷ 0 ∷ 1 ∷ 0 ∷ 0 ∷ 0 ∷ 0 ∷ 0 ∷ []) [])
    ∷ row guess (0 ∷ 0 ∷ 0 ∷ 0 ∷ 1 ∷ 0 ∷ 0 ∷ 0 ∷ 0 ∷ 0 ∷ []) [] 9 (is 0 0 3 0 (0 ∷ 0 ∷ 0 ∷ 0 ∷ 1 ∷ 0 ∷ 0 ∷ 0 ∷ 0 ∷ 0 ∷ []) [])
    ∷ row guess (1 ∷ 0 ∷ 0 ∷ 0 ∷ 1 ∷ 0 ∷ 0 ∷ 0 ∷ 0 ∷ 1 ∷ []) [] 9 (is 0 0 3 0 (1 ∷ 0 ∷ 0 ∷ 0 ∷ 1 ∷ 1 ∷ 0 ∷ 0 ∷ 0 ∷ 1 ∷ []) [])
    -- P8 to P10: emission
    ∷ row (say 0) (7 ∷ 0 ∷ 0 ∷ 0 ∷ 1 ∷ []) (9 ∷ 9 ∷ 9 ∷ 9 ∷ 9 ∷ []) 9 (is 4 0 1 0 (7 ∷ 0 ∷ 0 ∷ 0 ∷ 1 ∷ []) (9 ∷ 9 ∷ 9 ∷ 9 ∷ 9 ∷ []))
    ∷ row (say 1) (7 ∷ 0 ∷ 0 ∷ 0 ∷ 1 ∷ []) (9 ∷ 9 ∷ 9 ∷ 9 ∷ 9 ∷ []) 9 (is 0 0 1 1 (7 ∷ 0 ∷ 0 ∷ 0 ∷ 1 ∷ []) (1 ∷ 7 ∷ 0 ∷ 0 ∷ 0 ∷ []))
    ∷ row (say 1) (7 ∷ 0 ∷ 0 ∷ 0 ∷ 1 ∷ []) (9 ∷ 9 ∷ 9 ∷ 9 ∷ []) 9 (is 7 0 1 0 (7 ∷ 0 ∷ 0 ∷ 0 ∷ 1 ∷ []) (9 ∷ 9 ∷ 9 ∷ 9 ∷ []))
    -- P11 2147483647 + 1; P12 -7 / 2 and -7 % 2; P13 65536 * 65536
    ∷ row (reckon 0) (255 ∷ 255 ∷ 255 ∷ 127 ∷ 0 ∷ 1 ∷ 0 ∷ 0 ∷ 0 ∷ 0 ∷ []) [] 9 (is 0 0 1 0 (0 ∷ 0 ∷ 0 ∷ 128 ∷ 0 ∷ 1 ∷ 0 ∷ 0 ∷ 0 ∷ 0 ∷ []) [])
    ∷ row (reckon 3) (249 ∷ 255 ∷ 255 ∷ 255 ∷ 0 ∷ 2 ∷ 0 ∷ 0 ∷ 0 ∷ 0 ∷ []) [] 9 (is 0 0 1 0 (253 ∷ 255 ∷ 255 ∷ 255 ∷ 0 ∷ 2 ∷ 0 ∷ 0 ∷ 0 ∷ 0 ∷ []) [])
    ∷ row (reckon 4) (249 ∷ 255 ∷ 255 ∷ 255 ∷ 0 ∷ 2 ∷ 0 ∷ 0 ∷ 0 ∷ 0 ∷ []) [] 9 (is 0 0 1 0 (255 ∷ 255 ∷ 255 ∷ 255 ∷ 0 ∷ 2 ∷ 0 ∷ 0 ∷ 0 ∷ 0 ∷ []) [])
    ∷ row (reckon 2) (0 ∷ 0 ∷ 1 ∷ 0 ∷ 0 ∷ 0 ∷ 0 ∷ 1 ∷ 0 ∷ 0 ∷ []) [] 9 (is 0 0 1 0 (0 ∷ 0 ∷ 0 ∷ 0 ∷ 0 ∷ 0 ∷ 0 ∷ 1 ∷ 0 ∷ 0 ∷ []) [])
    ∷ []

unfoldable pub directed_rows : List Row
directed_rows =
    -- the repeated test's tag joins the branch tag: the second y := 1 is stopped
    row learn (1 ∷ 0 ∷ 0 ∷ 0 ∷ 0 ∷ 0 ∷ 0 ∷ 0 ∷ 0 ∷ 0 ∷ 1 ∷ 0 ∷ 0 ∷ 0 ∷ 1 ∷ []) [] 20
    (is 2 0 8 0 (1 ∷ 0 ∷ 0 ∷ 0 ∷ 1 ∷ 1 ∷ 0 ∷ 0 ∷ 0 ∷ 0 ∷ 1 ∷ 0 ∷ 0 ∷ 0 ∷ 1 ∷ []) [])
    -- after the loop the branch tag is that from before it: y := 1 is allowed
    ∷ row after (1 ∷ 0 ∷ 0 ∷ 0 ∷ 1 ∷ 0 ∷ 0 ∷ 0 ∷ 0 ∷ 0 ∷ []) [] 20
    (is 0 0 6 0 (0 ∷ 0 ∷ 0 ∷ 0 ∷ 1 ∷ 1 ∷ 0 ∷ 0 ∷ 0 ∷ 0 ∷ []) [])
    -- a branch on a marked reading cannot choose between two clean verdicts
    ∷ row chooser (1 ∷ 0 ∷ 0 ∷ 0 ∷ 1 ∷ []) (9 ∷ 9 ∷ 9 ∷ 9 ∷ 9 ∷ []) 20 (is 4 0 2 0 (1 ∷ 0 ∷ 0 ∷ 0 ∷ 1 ∷ []) (9 ∷ 9 ∷ 9 ∷ 9 ∷ 9 ∷ []))
    -- with a clean reading it can; bytes after the record stay
    ∷ row chooser (1 ∷ 0 ∷ 0 ∷ 0 ∷ 0 ∷ []) (9 ∷ 9 ∷ 9 ∷ 9 ∷ 9 ∷ 9 ∷ []) 20 (is 0 0 3 1 (1 ∷ 0 ∷ 0 ∷ 0 ∷ 0 ∷ []) (0 ∷ 1 ∷ 0 ∷ 0 ∷ 0 ∷ 9 ∷ []))
    -- spread 511
    ∷ row doubled [] [] 20 (is 21 8 0 0 [] [])
    -- in the library budget 0 is no step
    ∷ row countdown (2 ∷ 0 ∷ 0 ∷ 0 ∷ 0 ∷ []) [] 0 (is 1 0 0 0 (2 ∷ 0 ∷ 0 ∷ 0 ∷ 0 ∷ []) [])
    ∷ []

-- from the C host budget 0 is the house budget; a report of 13 bytes, 5 steps and place 0
unfoldable pub hosted_countdown : Hosted
hosted_countdown =
    hosted countdown two_tags (2 ∷ 0 ∷ 0 ∷ 0 ∷ 0 ∷ []) [] (9 ∷ 9 ∷ 9 ∷ 9 ∷ 9 ∷ 9 ∷ 9 ∷ 9 ∷ 9 ∷ 9 ∷ 9 ∷ 9 ∷ 9 ∷ []) 0

unfoldable pub hosted_answer : Hosted
hosted_answer =
    record {
      number = 0;
      memory = 0 ∷ 0 ∷ 0 ∷ 0 ∷ 0 ∷ [];
      room = [];
      report = 0 ∷ 0 ∷ 0 ∷ 0 ∷ 5 ∷ 0 ∷ 0 ∷ 0 ∷ 0 ∷ 0 ∷ 0 ∷ 0 ∷ 9 ∷ [];
    }

-- ---- runs that tell demand 2's machine from others

unfoldable pub two : List ℕ
two = 2 ∷ 0 ∷ 0 ∷ 0 ∷ 0 ∷ []

unfoldable pub none : List ℕ
none = 0 ∷ 0 ∷ 0 ∷ 0 ∷ 0 ∷ []

abbrev pub ended : End → (steps : ℕ) → (memory : List ℕ) → Judged
ended e k m = record { outcome = outcome_of e k 0; memory = m; room = [] }

unfoldable pub telling : List Judged
telling =
    judged countdown two_tags two [] 5
    ∷ judged countdown two_tags two [] 1
    ∷ judged countdown two_tags none [] 5
    ∷ judged by_twos two_tags two [] 5
    ∷ judged by_twos two_tags two [] 1
    ∷ []

unfoldable pub told : List Judged
told = ended Done 5 none ∷ ended Budget 1 two ∷ ended Done 1 none ∷ ended Done 3 none ∷ ended Budget 1 two ∷ []
