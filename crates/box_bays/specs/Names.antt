-- The calls that name a position of a bay, by the value that names one in the code.
use Rattle.std.specs.Prelude.{ℕ, List}
use Rattle.spec_bay.specs.Called.{Called}
use Rattle.spec_bay.specs.BayCalls.{bay_save_of, bay_restore_of, bay_forget_of}
use Rattle.box_bays.specs.declared.naming.Naming.{Naming}
use Rattle.box_bays.specs.declared.naming.Naming.TheVariants.{Save, Restore, Forget}

abbrev pub bay_named_of : Naming → (name : ℕ) (s : List ℕ) → Called
bay_named_of Save name s = bay_save_of s name
bay_named_of Restore name s = bay_restore_of s name
bay_named_of Forget name s = bay_forget_of s name
