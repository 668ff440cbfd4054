-- The calls that lend nothing but the bay and want it filled, by the value that names one in the code.
use Rattle.std.specs.Prelude.{ℕ, List}
use Rattle.spec_bay.specs.Called.{Called}
use Rattle.spec_bay.specs.BayCalls.{bay_release_of}
use Rattle.box_bays.specs.Names.{bay_named_of}
use Rattle.box_bays.specs.declared.bufferless.Moving.{Moving}
use Rattle.box_bays.specs.declared.bufferless.Moving.TheVariants.{Release, Named}

abbrev pub bay_moved_of : Moving → (s : List ℕ) → Called
bay_moved_of Release s = bay_release_of s
bay_moved_of (Named naming name) s = bay_named_of naming name s
