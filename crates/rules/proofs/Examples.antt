-- The bench examples P1 to P13 of document 01, and the directed ones. Assumes nothing.
use mathlib.Core.Path.{◌≡◌, refl}
use mathlib.Core.List.{map}
use Rattle.words.specs.Word.{int, word, truth, negated, denied, absolute, sum, difference, product, quotient, remainder, less, less_equal, equal, not_equal}
use Rattle.rules.specs.Bytes.{half_bytes, whole_bytes}
use mathlib.Core.Bool.{◌&&◌}
use Rattle.rules.specs.Checks.{require, ◌and_then◌, up_to, every}
use Rattle.rules.specs.Operators.{unary, binary, divides}
use Rattle.rules.specs.Recipe.{expr_if, stmt_if, unary_expr, binary_expr, expr_of, stmt_of, expr, stmt, mark_ok, zeros_ok, counts_ok, expr_ok, spread_by, spread_within, stmt_ok, check_header, check_recipe, port_ok, check_ports}
use Rattle.rules.specs.Policy.{under, policy_header_ok, law_at, laws_ok, check_policy}
use Rattle.rules.specs.Memory.{value_of, tag_of, places, place_bytes, check_memory, record_bytes}
use Rattle.rules.specs.Steps.{given, value_within, test, allow, check}
use Rattle.rules.specs.Run.{follow}
use Rattle.rules.specs.Ends.{stop_number, refusal_number, refusal_place, end_number, end_place}
use Rattle.rules.specs.Judged.{written_back, checks, decided, judged, host_budget, report_bytes, with_report, hosted}
use Rattle.rules.specs.Examples.{two_tags, countdown, table, a_constant, a_variable, a_binary, a_skip, a_statement, an_emit, guess, say, reckon, learn, after, chooser, doubled, by_twos, answer_of, answer, machine_says, bench_rows, directed_rows, hosted_countdown, hosted_answer, two, none, telling, told}

pub examples : (map machine_says bench_rows ≡ map answer bench_rows) × (map machine_says directed_rows ≡ map answer directed_rows) × (hosted_countdown ≡ hosted_answer) × (telling ≡ told)
unfolding int word truth negated denied absolute sum difference product quotient remainder less less_equal equal not_equal half_bytes whole_bytes require ◌and_then◌ up_to every unary binary divides expr_if stmt_if unary_expr binary_expr expr_of stmt_of expr stmt mark_ok zeros_ok counts_ok expr_ok spread_by spread_within stmt_ok check_header check_recipe port_ok check_ports under policy_header_ok law_at laws_ok check_policy value_of tag_of places place_bytes check_memory record_bytes given value_within test allow check follow stop_number refusal_number refusal_place end_number end_place written_back checks decided judged host_budget report_bytes with_report hosted two_tags countdown table a_constant a_variable a_binary a_skip a_statement an_emit guess say reckon learn after chooser doubled by_twos answer_of bench_rows directed_rows hosted_countdown hosted_answer two none telling told
examples = (refl, refl, refl, refl)

pub bench_examples : map machine_says bench_rows ≡ map answer bench_rows
bench_examples = examples.0

pub directed_examples : map machine_says directed_rows ≡ map answer directed_rows
directed_examples = examples.1

pub host_example : hosted_countdown ≡ hosted_answer
host_example = examples.2

pub telling_runs : telling ≡ told
telling_runs = examples.3
