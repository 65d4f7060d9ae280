-- `reader::file_wrapper::Metadata::plan` meets its contract.
-- Assumes nothing.
use native.Mathlib.Omega.{arith}
use Rattle.reader.proofs.plan.Laws.{few_blocks, fits}
use Rattle.reader.proofs.file_wrapper.Metadata.plan.Goals as goal

pub overflow_add-w : goal.overflow_add-w
overflow_add-w c = omega (arith, few_blocks c.args.self)

pub stride_for-stride-requires : goal.stride_for-stride-requires
stride_for-stride-requires c = few_blocks c.args.self

pub invariant_of-result : goal.invariant_of-result
invariant_of-result c = record { fits = fits c.args.self _ c.stride_for-stride.ensures }
