-- The limits of a plan's text (this project's profile), each that of the constant of its name.
use Rattle.std.specs.Prelude.{◌≡◌, ℕ, refl}
use Rattle.wl_setup.specs.declared.limits.TheConstants.{MOST_BYTES, LARGEST_NUMBER, LARGEST_SMALL, LARGEST_PPM, LARGEST_TOLERANCE, LARGEST_BYTE, LONGEST_NAME, FIRST_VERSION, VERSION_OF_RATES, VERSION_OF_TRAFFIC, VERSION_OF_CONTROLLERS}

-- the most bytes of a plan's text
unfoldable pub most_bytes : ℕ
most_bytes = MOST_BYTES

-- the greatest whole number
unfoldable pub largest_number : ℕ
largest_number = LARGEST_NUMBER

-- the greatest place, identifier or data length code
unfoldable pub largest_small : ℕ
largest_small = LARGEST_SMALL

-- the greatest rate error either way, in parts per million
unfoldable pub largest_ppm : ℕ
largest_ppm = LARGEST_PPM

-- the greatest tolerance of a node's rate, in parts per million
abbrev pub largest_tolerance : ℕ
largest_tolerance = LARGEST_TOLERANCE

-- the greatest byte of a frame
abbrev pub largest_byte : ℕ
largest_byte = LARGEST_BYTE

-- the most letters of a name
abbrev pub longest_name : ℕ
longest_name = LONGEST_NAME

-- the first version, in which a node has one rate
abbrev pub first_version : ℕ
first_version = FIRST_VERSION

-- the one in which it has a list of them
abbrev pub version_of_rates : ℕ
version_of_rates = VERSION_OF_RATES

-- the one in which frames come again, nodes only listen and disturbances are at one node
abbrev pub version_of_traffic : ℕ
version_of_traffic = VERSION_OF_TRAFFIC

-- and the last that is known, in which limits are wide and nodes have the segments of controllers
abbrev pub version_of_controllers : ℕ
version_of_controllers = VERSION_OF_CONTROLLERS

-- what each large name stands for, for proofs
pub most_bytes-is : most_bytes ≡ MOST_BYTES
unfolding most_bytes
most_bytes-is = refl

pub largest_number-is : largest_number ≡ LARGEST_NUMBER
unfolding largest_number
largest_number-is = refl

pub largest_small-is : largest_small ≡ LARGEST_SMALL
unfolding largest_small
largest_small-is = refl

pub largest_ppm-is : largest_ppm ≡ LARGEST_PPM
unfolding largest_ppm
largest_ppm-is = refl
