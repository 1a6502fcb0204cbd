-- The law of the telescoping sum over the pieces of a path.
use Rattle.std.proofs.Common.{refl}
use Rattle.overlay_split.specs.Laws.{NumbersAreOdd, PiecesTelescope}
use Rattle.overlay_cuts.proofs.laws.paths.Pieces.{weighed-pieces}

-- ---- a path ends at the end of its pair

pub numbers_are_odd : NumbersAreOdd
numbers_are_odd = (λ c. refl, λ c. refl)

pub pieces_telescope : PiecesTelescope
pieces_telescope f part odd segment marks = weighed-pieces part odd f segment marks
