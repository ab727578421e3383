-- The image of a configuration, and its listing.
use Rattle.std.specs.Prelude.{◌≡◌, ℕ, List, ◌++◌, length, flat_map, Result, Ok, Err}
use Rattle.bk_asm.specs.Listing.{listed}
use Rattle.bk_base.specs.Faults.{◌>>=◌}
use Rattle.bk_image.specs.Image.{image_of}
use Rattle.bk_image.specs.Spelling.{spelling}
use Rattle.bk_image.specs.Writing.{written_image}
use Rattle.bk_image.specs.declared.fault.ImageFault.{ImageFault}
use Rattle.bk_state.specs.declared.image.Image.{Image}
use Rattle.bk_conf.specs.declared.fault.BuildFault.{BuildFault}
use Rattle.bk_conf.specs.declared.fault.BuildKind.TheVariants as kind
use Rattle.bk_conf.specs.declared.said.Named.{Named}
use Rattle.bk_conf.specs.Fault.{fault_at}
use Rattle.bk_conf.specs.Lines.{Text}
use Rattle.bk_conf.specs.Steps.{configuration_of}
use Rattle.bk_conf.specs.Ordered.{ordered}

-- the image, where its bytes are one
abbrev pub if_written : Image → Result (List ℕ) ImageFault → Result Image BuildFault
if_written image (Ok bytes) = Ok image
if_written image (Err fault) = Err (fault_at 0 (kind.Image fault.field))

-- the image of a configuration, or its first fault
unfoldable pub built : Text → Result Image BuildFault
built text = do
  said ← configuration_of text
  if_written (ordered said) (written_image (ordered said))

-- the listings of programs, one behind the other
abbrev pub listings_of : List Named → List ℕ
listings_of programs = flat_map (λ named. listed named.name named.program) programs

-- the listing of a configuration: of its programs in their order; or its first fault
unfoldable pub listing_of : Text → Result (List ℕ) BuildFault
listing_of text = do
  said ← configuration_of text
  Ok (listings_of said.programs)

-- the bytes of an image are its spelling, and are read again as the image, whatever follows them
pub record IsWhole (image : Image) : Type 0 where
  pub written : written_image image ≡ Ok (spelling image)
  pub again : (more : List ℕ) → image_of (spelling image ++ more) ≡ Ok (image, length (spelling image))
