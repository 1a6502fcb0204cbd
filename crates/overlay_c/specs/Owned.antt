-- What a handle owns.
use base.Fml.{Fml, ftrue}
use denote.RattleType.{RattleType}
use denote.RawPtr.{Ptr}
use Rattle.std.specs.declared.option.Option.{Option}
use Rattle.std.specs.declared.option.Option.TheVariants.{None, Some}
use Rattle.std.specs.declared.alloc.Global.{Global}
use Rattle.std.specs.contracts.impls.GlobalAllocator.TheImpl.{ghosts}
use Rattle.std_alloc.specs.Box.Ownership.{box_owns}

-- the box at the pointer where there is a value, else nothing
abbrev pub held : (R : RattleType) → Global → Ptr → Option R.Denot → Fml
held R a p (Some x) = box_owns (ghosts.dealloc_token a) R p x
held R a p None = ftrue
