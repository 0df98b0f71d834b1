-- No public call asks anything of its caller: what its contract requires holds of any arguments, so that a clause that is added breaks the law. Assumes nothing.
use contract.Lifetimes.{Lfts}
use borrow.Fn.World.{ArgsD}
use Rattle.image.specs.contracts.accept
use Rattle.image.proofs.accept.Reads as accept-reads
use Rattle.image.specs.contracts.acceptance.is_image
use Rattle.image.proofs.acceptance.is_image.Reads as is-image-reads
use Rattle.image.specs.contracts.acceptance.lengths_fit
use Rattle.image.proofs.acceptance.lengths_fit.Reads as lengths-fit-reads
use Rattle.image.specs.contracts.build
use Rattle.image.proofs.build.Reads as build-reads
use Rattle.image.specs.contracts.buffers.words_for as words-for
use Rattle.image.proofs.buffers.words_for.Reads as words-for-reads

pub accept-asks-nothing : (κs : Lfts 3) (a : ArgsD accept.signature κs) → accept-reads.Pre κs a
accept-asks-nothing κs a = tt

pub is-image-asks-nothing : (κs : Lfts 3) (a : ArgsD is_image.signature κs) → is-image-reads.Pre κs a
is-image-asks-nothing κs a = tt

pub build-asks-nothing : (κs : Lfts 5) (a : ArgsD build.signature κs) → build-reads.Pre κs a
build-asks-nothing κs a = tt

pub lengths-fit-asks-nothing : (κs : Lfts 3) (a : ArgsD lengths_fit.signature κs) → lengths-fit-reads.Pre κs a
lengths-fit-asks-nothing κs a = tt

pub words-for-asks-nothing : (κs : Lfts 0) (a : ArgsD words-for.signature κs) → words-for-reads.Pre κs a
words-for-asks-nothing κs a = tt
