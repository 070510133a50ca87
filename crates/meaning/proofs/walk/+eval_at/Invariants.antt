-- The depth that is left falls with each call.
use Rattle.meaning.proofs.walk.+eval_at.Given as goal

abbrev pub decreases-eval_at : goal.decreases-eval_at
decreases-eval_at l = l.depth
