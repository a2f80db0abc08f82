use Rattle.std.proofs.Common.{w64, ap, ◌∙◌}
use Rattle.std.proofs.lemmas.Int.{to_z-of_z}
use Rattle.st_types.specs.declared.standard.StandardBlock.TheVariants as blocks
use Rattle.st_blocks.specs.Blocks.{off_delay, on_delay, pulse}
use Rattle.st_blocks.specs.Cells.{timer_cells, ton_cells}
use Rattle.st_blocks.proofs.SameKind.{same_length, stepped_at}
use Rattle.st_blocks.proofs.block.block_step.Goals as goal

pub copy_from_slice-requires-in-Sr : goal.copy_from_slice-requires-in-Sr
copy_from_slice-requires-in-Sr c = same_length c.args.kind blocks.Sr c.args.cells.now c.cells-in-Sr.result c.in-Sr.is c.requires c.cells-in-Sr.ensures.typed

pub copy_from_slice-requires-in-Rs : goal.copy_from_slice-requires-in-Rs
copy_from_slice-requires-in-Rs c = same_length c.args.kind blocks.Rs c.args.cells.now c.cells-in-Rs.result c.in-Rs.is c.requires c.cells-in-Rs.ensures.typed

pub copy_from_slice-requires-in-Ctu : goal.copy_from_slice-requires-in-Ctu
copy_from_slice-requires-in-Ctu c = same_length c.args.kind blocks.Ctu c.args.cells.now c.cells-in-Ctu.result c.in-Ctu.is c.requires c.cells-in-Ctu.ensures.typed

pub copy_from_slice-requires-in-Ctd : goal.copy_from_slice-requires-in-Ctd
copy_from_slice-requires-in-Ctd c = same_length c.args.kind blocks.Ctd c.args.cells.now c.cells-in-Ctd.result c.in-Ctd.is c.requires c.cells-in-Ctd.ensures.typed

pub copy_from_slice-requires-in-Ton : goal.copy_from_slice-requires-in-Ton
copy_from_slice-requires-in-Ton c = same_length c.args.kind blocks.Ton c.args.cells.now c.cells-in-Ton.result c.in-Ton.is c.requires c.cells-in-Ton.ensures.typed

pub copy_from_slice-requires-in-Tof : goal.copy_from_slice-requires-in-Tof
copy_from_slice-requires-in-Tof c = same_length c.args.kind blocks.Tof c.args.cells.now c.cells-in-Tof.result c.in-Tof.is c.requires c.cells-in-Tof.ensures.typed

pub copy_from_slice-requires-in-Tp : goal.copy_from_slice-requires-in-Tp
copy_from_slice-requires-in-Tp c = same_length c.args.kind blocks.Tp c.args.cells.now c.cells-in-Tp.result c.in-Tp.is c.requires c.cells-in-Tp.ensures.typed

pub returns-in-Ton-clause-stepped : goal.returns-in-Ton-clause-stepped
returns-in-Ton-clause-stepped c =
    stepped_at c.args.kind blocks.Ton c.args.cells.now c.copy_from_slice-in-Ton.new.self c.args.now c.in-Ton.is
    (c.copy_from_slice-in-Ton.ensures.after ∙ c.cells-in-Ton.ensures.value
    ∙ ap ton_cells (c.on_delay.ensures ∙ ap (on_delay c.read-in-Ton.result) (to_z-of_z w64 c.args.now c.ranges.now) ∙ ap (λ t. on_delay t c.args.now) c.read-in-Ton.ensures))

pub returns-in-Tof-clause-stepped : goal.returns-in-Tof-clause-stepped
returns-in-Tof-clause-stepped c =
    stepped_at c.args.kind blocks.Tof c.args.cells.now c.copy_from_slice-in-Tof.new.self c.args.now c.in-Tof.is
    (c.copy_from_slice-in-Tof.ensures.after ∙ c.cells-in-Tof.ensures.value
    ∙ ap timer_cells (c.off_delay.ensures ∙ ap (off_delay c.read-in-Tof.result) (to_z-of_z w64 c.args.now c.ranges.now) ∙ ap (λ t. off_delay t c.args.now) c.read-in-Tof.ensures))

pub returns-in-Tp-clause-stepped : goal.returns-in-Tp-clause-stepped
returns-in-Tp-clause-stepped c =
    stepped_at c.args.kind blocks.Tp c.args.cells.now c.copy_from_slice-in-Tp.new.self c.args.now c.in-Tp.is
    (c.copy_from_slice-in-Tp.ensures.after ∙ c.cells-in-Tp.ensures.value
    ∙ ap timer_cells (c.pulse.ensures ∙ ap (pulse c.read-in-Tp.result) (to_z-of_z w64 c.args.now c.ranges.now) ∙ ap (λ t. pulse t c.args.now) c.read-in-Tp.ensures))
