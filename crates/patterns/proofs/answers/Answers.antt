-- The answers of what was read, by the two views of it.
use Rattle.std.proofs.Common.{◌∙◌}
use Rattle.dialects.specs.Files.{room}
use Rattle.patterns.proofs.Whole.{prints_answered, same_views}
use Rattle.patterns.proofs.answers.Goals as goal

pub returns : goal.returns
returns c =
    let files = c.args.files in
    let names = c.args.memory.now.names.now in
    let masks = c.args.memory.now.masks.now in
    prints_answered (room names) (room masks) files.names.now files.masks.now files.input.now _
    c.in_ok-name_count.name_count c.in_ok-mask_count.mask_count names c.read_names.new.parts masks c.read_masks.new.parts
    c.in_ok-name_count.ensures.only c.in_ok-mask_count.ensures.only c.in_ok-name_count.ensures.memory c.in_ok-mask_count.ensures.memory
    (c.in_ok-report.ensures ∙ same_views _ _ _ _ files.input.now _ _ _ _ c.new-first.ensures.0 c.new-first.ensures.1 c.new-second.ensures.0 c.new-second.ensures.1)
