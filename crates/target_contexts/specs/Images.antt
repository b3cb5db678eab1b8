-- The image that a file's name means.
use Rattle.std.specs.Prelude.{ℕ, nat_le, Bool, ◌&&◌, List, length, find, Option, bytes_eq}
use Rattle.target_contexts.specs.declared.process.Image.{Image}

-- a name of more than 65,536 bytes is matched by nothing
abbrev pub is_named : List ℕ → Image → Bool
is_named file image = nat_le (length image.name) 65536 && bytes_eq image.name file

-- the first image of this name
abbrev pub image_of : List ℕ → List Image → Option Image
image_of file images = find (λ image. is_named file image) images
