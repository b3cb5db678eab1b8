use Rattle.elf_image.proofs.Answered.{aligned_then, apart_then, below_then, fault_answered, image_then, inside_then, parts_then, refused_for, sound_then}
use Rattle.elf_image.proofs.reading.read.Goals as goal

pub returns-clause-fault : goal.returns-clause-fault
returns-clause-fault c = fault_answered c.args.bytes.now c.program.result c.program.ensures

pub returns-clause-refused : goal.returns-clause-refused
returns-clause-refused c = refused_for c.args.bytes.now c.program.result c.program.ensures

pub returns-clause-sound : goal.returns-clause-sound
returns-clause-sound c = sound_then c.args.bytes.now c.program.result c.program.ensures

pub returns-clause-parts : goal.returns-clause-parts
returns-clause-parts c = parts_then c.args.bytes.now c.program.result c.program.ensures

pub returns-clause-image : goal.returns-clause-image
returns-clause-image c = image_then c.args.bytes.now c.program.result c.program.ensures

pub returns-clause-inside : goal.returns-clause-inside
returns-clause-inside c = inside_then c.args.bytes.now c.program.result c.program.ensures

pub returns-clause-apart : goal.returns-clause-apart
returns-clause-apart c = apart_then c.args.bytes.now c.program.result c.program.ensures

pub returns-clause-aligned : goal.returns-clause-aligned
returns-clause-aligned c = aligned_then c.args.bytes.now c.program.result c.program.ensures

pub returns-clause-below : goal.returns-clause-below
returns-clause-below c = below_then c.args.bytes.now c.program.result c.program.ensures
