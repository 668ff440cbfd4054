-- The call on a box that a value of the code names.
use Rattle.spec_box.specs.Box.{Call, release, save, restore, forget}
use Rattle.box_bays.specs.declared.naming.Naming.TheVariants.{Save, Restore, Forget}
use Rattle.box_bays.specs.declared.bufferless.Moving.{Moving}
use Rattle.box_bays.specs.declared.bufferless.Moving.TheVariants.{Release, Named}

abbrev pub call_by : Moving → Call
call_by Release = release
call_by (Named Save name) = save name
call_by (Named Restore name) = restore name
call_by (Named Forget name) = forget name
