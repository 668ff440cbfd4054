use Rattle.spec_sequence.specs.Commands.{Command}
use Rattle.commands.proofs.Shapes.{of_byte, of_others}
use Rattle.commands.proofs.shape_of.Goals as goal

pub returns-in-0 : goal.returns-in-0
returns-in-0 c = of_byte Command.nothing c.in-0.is

pub returns-in-4 : goal.returns-in-4
returns-in-4 c = of_byte Command.seq c.in-4.is

pub returns-in-5 : goal.returns-in-5
returns-in-5 c = of_byte Command.par c.in-5.is

pub returns-in-6 : goal.returns-in-6
returns-in-6 c = of_byte Command.loop c.in-6.is

pub returns-in-7 : goal.returns-in-7
returns-in-7 c = of_byte Command.present c.in-7.is

pub returns-in-8 : goal.returns-in-8
returns-in-8 c = of_byte Command.signal c.in-8.is

pub returns-in-9 : goal.returns-in-9
returns-in-9 c = of_byte Command.try c.in-9.is

pub returns-in-11 : goal.returns-in-11
returns-in-11 c = of_byte Command.suspend c.in-11.is

pub returns-in-12 : goal.returns-in-12
returns-in-12 c = of_byte Command.deliver c.in-12.is

pub returns-in_default : goal.returns-in_default
returns-in_default c = of_others c.in_default.in_default-own.rest
