use Rattle.std.proofs.Common.{◌∙◌, ◌∷◌, ap, refl}
use Rattle.ip_captures.specs.Block.{blocks_in}
use Rattle.ip_captures.proofs.BlockLists.{first_block}
use Rattle.ip_captures.proofs.block_laws.written_blocks_are_read_again.Goals as goal

pub returns : goal.returns
returns c = record {
  section = λ limit room s o b t is fits.
      first_block limit room s b t (is.block limit room s fits) ∙ ap (λ x. b ∷ blocks_in limit room x t) (is.begins s);
  interface = λ limit room s i b t is fits less.
      first_block limit room s b t (is.block limit room s refl less fits) ∙ ap (λ x. b ∷ blocks_in limit room x t) (is.described s refl);
  packet = λ limit room s p b t is fits less. (
    first_block limit room s b t (is.block limit room s refl less fits) ∙ ap (λ x. b ∷ blocks_in limit room x t) (is.section s refl),
    is.frame s refl,
  );
}
