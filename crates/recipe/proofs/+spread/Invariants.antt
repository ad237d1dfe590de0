use Rattle.recipe.proofs.+spread.Given as goal

abbrev pub decreases-spread : goal.decreases-spread
decreases-spread l = l.e
