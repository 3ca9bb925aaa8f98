-- `arithmetic_examples::area` meets its contract by certificates: w h − w = (w − 1)(h − 1) + (h − 1), and the same with the sides changed about. Assumes nothing.
use Rattle.integers.specs.Certificates.{hyp, num, ◌⊞◌, ◌⊠◌}
use Rattle.integers.specs.Solve.{◌&◌}
use Rattle.integers.specs.Machine.{◌▹◌, end, no_overflow!, machine_certify!, reads, tests}
use Rattle.arithmetic_examples.proofs.area.Goals as goal

pub overflow_mul-result : goal.overflow_mul-result
overflow_mul-result c = no_overflow! (c.requires.0 ▹ c.requires.1 ▹ end) (search reads depth 30) tt

pub returns : goal.returns
returns c =
    let e = c.requires.0 ▹ c.requires.1 ▹ end in let h = c.requires.2 & c.requires.3 in (
      machine_certify! e h (search tests depth 30) (num 1) (hyp 0 ⊠ hyp 1 ⊞ hyp 1) tt,
      machine_certify! e h (search tests depth 30) (num 1) (hyp 0 ⊠ hyp 1 ⊞ hyp 0) tt,
    )
