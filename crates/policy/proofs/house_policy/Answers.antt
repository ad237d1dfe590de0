-- What is written, where there is room. Assumes nothing.
use native.Mathlib.Omega.{arith}
use mathlib.Core.Path.{refl}
use borrow.Author.Tests.{le-leb}
use lib.ListN.{length}
use Rattle.rules.specs.Checks.{require}
use Rattle.rules.specs.Policy.{house_header, house_joins}
use Rattle.policy.proofs.House.{parts, room}
use Rattle.policy.proofs.house_policy.Goals as goal

pub returns : goal.returns
unfolding require house_header house_joins
returns c =
    let b = c.args.out.now in
    rw (room b (omega arith), le-leb 266 (length b) (omega arith), c.copy_from_slice.ensures.after, c.copy_from_slice-2.ensures.after, c.copy_from_slice-3.ensures.after)
    (refl, parts b)
