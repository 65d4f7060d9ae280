-- The number and place of documents 01 and 02 for each kind of failure.
-- Assumes nothing.
use Rattle.std.specs.Prelude.{ℕ, List, ◌++◌, codes, decimal}
use Rattle.text.specs.declared.error.Failure.{Failure}
use Rattle.text.specs.declared.error.MatError.{MatError}
use Rattle.text.specs.declared.error.MatError.TheVariants.{BlobTooLong, BlobTooShort, OffsetOutOfBounds, NameHeapTooEarly, OffsetsDescending, TooFewNames, PropertyBlockTruncated, ObjectIdOutOfRange, ClassIdOutOfRange, PropertyBlockIdOutOfRange, NameIndexOutOfRange, UnknownFieldType, InvalidDirectory, CellNotFound, UnexpectedCellKind, NotStringObject, OpaqueMetadataSize, OpaqueMetadataMagic, OpaqueMetadataDimensionsTruncated, OpaqueMetadataProductOverflow, OpaqueMetadataSizeMismatch, PayloadSize, PayloadVersion, PayloadDimensionsTruncated, PayloadProductOverflow, PayloadLengthsTruncated, PayloadLengthSumOverflow, PayloadUnitsTruncated, UnpairedSurrogate, InvalidText, ShapeMismatch, LimitExceeded, NotCanonical, OutputTooShort, NameIllFormed, UnmappableCharacter}

-- a check's number and its place
abbrev at : ℕ → ℕ → Failure
at n p = record { number = n; place = p }

-- the question's number in documents 01 and 02, and its place
abbrev pub failure_of : MatError → Failure
failure_of (BlobTooLong p) = at 1 p
failure_of (BlobTooShort p) = at 2 p
failure_of (OffsetOutOfBounds p) = at 3 p
failure_of (NameHeapTooEarly p) = at 4 p
failure_of (OffsetsDescending p) = at 5 p
failure_of (TooFewNames p) = at 6 p
failure_of (PropertyBlockTruncated p) = at 7 p
failure_of (ObjectIdOutOfRange p) = at 8 p
failure_of (ClassIdOutOfRange p) = at 9 p
failure_of (PropertyBlockIdOutOfRange p) = at 10 p
failure_of (NameIndexOutOfRange p) = at 11 p
failure_of (UnknownFieldType p) = at 12 p
failure_of (InvalidDirectory p) = at 13 p
failure_of (CellNotFound p) = at 14 p
failure_of (UnexpectedCellKind p) = at 15 p
failure_of (NotStringObject p) = at 16 p
failure_of (OpaqueMetadataSize p) = at 17 p
failure_of (OpaqueMetadataMagic p) = at 18 p
failure_of (OpaqueMetadataDimensionsTruncated p) = at 19 p
failure_of (OpaqueMetadataProductOverflow p) = at 20 p
failure_of (OpaqueMetadataSizeMismatch p) = at 21 p
failure_of (PayloadSize p) = at 22 p
failure_of (PayloadVersion p) = at 23 p
failure_of (PayloadDimensionsTruncated p) = at 24 p
failure_of (PayloadProductOverflow p) = at 25 p
failure_of (PayloadLengthsTruncated p) = at 26 p
failure_of (PayloadLengthSumOverflow p) = at 27 p
failure_of (PayloadUnitsTruncated p) = at 28 p
failure_of (UnpairedSurrogate p) = at 29 p
failure_of (InvalidText p) = at 30 p
failure_of (ShapeMismatch p) = at 31 p
failure_of (LimitExceeded p) = at 32 p
failure_of (NotCanonical p) = at 33 p
failure_of (OutputTooShort p) = at 34 p
failure_of (NameIllFormed p) = at 35 p
failure_of (UnmappableCharacter p) = at 36 p

-- a failure as it is printed: "refused", its number and its place
abbrev pub refusal_text : Failure → List ℕ
refusal_text f = codes "refused " ++ (decimal f.number ++ (codes " " ++ decimal f.place))
