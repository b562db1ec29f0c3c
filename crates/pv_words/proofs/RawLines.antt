-- A script cut at its LF bytes.
use Rattle.std.proofs.Common.{◌≡◌, ◌≢◌, ◌⊎◌, inl, inr, ℕ, List, [], ◌∷◌, ◌++◌, map, refl, ap, ◌∙◌, append_assoc, codes}
use Rattle.std.specs.List.{AllByRecursion}
use Rattle.std.proofs.lemmas.Bool.{cases_eq}
use Rattle.std.proofs.lemmas.List.{map-append}
use Rattle.pv_words.specs.Lines.{FEED, with_first_byte, with_byte_in_first, raw_lines_of, ended_raw_lines, lines_of, ended_lines, without_returns, HasNoFeed, with_feeds}
use Rattle.pv_words.specs.Words.{with_feed}
use Rattle.pv_words.specs.Laws.{JoinLines, LinesEndAtFeeds}
use Rattle.pv_words.proofs.FirstWords.{not-eq}

-- a line that an LF ends is cut out, and what is after it is cut on
pub raw_lines_of-line : (line more : List ℕ) → HasNoFeed line → raw_lines_of (line ++ FEED ∷ more) ≡ line ∷ raw_lines_of more
raw_lines_of-line [] more free = refl
raw_lines_of-line (b ∷ bs) more free = rw (not-eq b 10 free.0) (ap (with_first_byte b) (raw_lines_of-line bs more free.1))

pub ended_raw_lines-line : (line more : List ℕ) → HasNoFeed line → ended_raw_lines (line ++ FEED ∷ more) ≡ line ∷ ended_raw_lines more
ended_raw_lines-line [] more free = refl
ended_raw_lines-line (b ∷ bs) more free = rw (not-eq b 10 free.0) (ap (with_byte_in_first b) (ended_raw_lines-line bs more free.1))

with_feed-before : (line lines more : List ℕ) → (with_feed line ++ lines) ++ more ≡ line ++ FEED ∷ (lines ++ more)
with_feed-before line lines more = append_assoc (with_feed line) lines more ∙ append_assoc line (codes "\n") (lines ++ more)

-- and so are lines
pub raw_lines_of-lines : (lines : List (List ℕ)) (more : List ℕ) → AllByRecursion HasNoFeed lines → raw_lines_of (with_feeds lines ++ more) ≡ lines ++ raw_lines_of more
raw_lines_of-lines [] more free = refl
raw_lines_of-lines (line ∷ lines) more free =
    ap raw_lines_of (with_feed-before line (with_feeds lines) more) ∙ raw_lines_of-line line (with_feeds lines ++ more) free.0
    ∙ ap (λ (ps : List (List ℕ)). line ∷ ps) (raw_lines_of-lines lines more free.1)

pub ended_raw_lines-lines : (lines : List (List ℕ)) (more : List ℕ) → AllByRecursion HasNoFeed lines → ended_raw_lines (with_feeds lines ++ more) ≡ lines ++ ended_raw_lines more
ended_raw_lines-lines [] more free = refl
ended_raw_lines-lines (line ∷ lines) more free =
    ap ended_raw_lines (with_feed-before line (with_feeds lines) more) ∙ ended_raw_lines-line line (with_feeds lines ++ more) free.0
    ∙ ap (λ (ps : List (List ℕ)). line ∷ ps) (ended_raw_lines-lines lines more free.1)

-- a part of a line is no ended piece, and one piece unless it is empty
pub ended_raw_lines-part : (part : List ℕ) → HasNoFeed part → ended_raw_lines part ≡ []
ended_raw_lines-part [] free = refl
ended_raw_lines-part (b ∷ bs) free = rw (not-eq b 10 free.0) (ap (with_byte_in_first b) (ended_raw_lines-part bs free.1))

pub raw_lines_of-part : (b : ℕ) (bs : List ℕ) → HasNoFeed (b ∷ bs) → raw_lines_of (b ∷ bs) ≡ (b ∷ bs) ∷ []
raw_lines_of-part b [] free = rw (not-eq b 10 free.0) refl
raw_lines_of-part b (c ∷ cs) free = rw (not-eq b 10 free.0) (ap (with_first_byte b) (raw_lines_of-part c cs free.1))

-- the first piece begins with the bytes that no LF cuts
pub record BeginsRawLines (front : List ℕ) (pieces : List (List ℕ)) : Type 0 where
  pub behind : List ℕ
  pub others : List (List ℕ)
  pub are : pieces ≡ (front ++ behind) ∷ others

first_of : (b : ℕ) (more : List ℕ) (pieces : List (List ℕ)) → BeginsRawLines (b ∷ []) (with_first_byte b pieces)
first_of b more [] = record { behind = []; others = []; are = refl }
first_of b more (p ∷ ps) = record { behind = p; others = ps; are = refl }

pub raw_lines_of-front : (b : ℕ) (bs more : List ℕ) → HasNoFeed (b ∷ bs) → BeginsRawLines (b ∷ bs) (raw_lines_of ((b ∷ bs) ++ more))
raw_lines_of-front b [] more free = rw (not-eq b 10 free.0) (first_of b more (raw_lines_of more))
raw_lines_of-front b (c ∷ cs) more free =
    let rest = raw_lines_of-front c cs more free.1 in
    rw (not-eq b 10 free.0) (record { behind = rest.behind; others = rest.others; are = ap (with_first_byte b) rest.are })

-- the first ended piece, if there is one, begins with the bytes before the first LF
pub ended_raw_lines-front : (front more : List ℕ) → HasNoFeed front → (ended_raw_lines (front ++ more) ≡ []) ⊎ BeginsRawLines front (ended_raw_lines (front ++ more))
ended_raw_lines-front [] more free = begins (ended_raw_lines more)
  where
    begins : (pieces : List (List ℕ)) → (pieces ≡ []) ⊎ BeginsRawLines [] pieces
    begins [] = inl refl
    begins (p ∷ ps) = inr (record { behind = p; others = ps; are = refl })
ended_raw_lines-front (b ∷ bs) more free = rw (not-eq b 10 free.0) (goes_on (ended_raw_lines-front bs more free.1))
  where
    goes_on : (ended_raw_lines (bs ++ more) ≡ []) ⊎ BeginsRawLines bs (ended_raw_lines (bs ++ more)) →
        (with_byte_in_first b (ended_raw_lines (bs ++ more)) ≡ []) ⊎ BeginsRawLines (b ∷ bs) (with_byte_in_first b (ended_raw_lines (bs ++ more)))
    goes_on (inl none) = inl (ap (with_byte_in_first b) none)
    goes_on (inr some) = inr (record { behind = some.behind; others = some.others; are = ap (with_byte_in_first b) some.are })

-- bytes as these pieces, each with its LF, and part of a line
pub record IsCutAs (bytes : List ℕ) (pieces : List (List ℕ)) : Type 0 where
  pub part : List ℕ
  pub is_cut : bytes ≡ with_feeds pieces ++ part
  pub lines_free : AllByRecursion HasNoFeed pieces
  pub part_free : HasNoFeed part

with_byte : (b : ℕ) (bs : List ℕ) (pieces : List (List ℕ)) → b ≢ FEED → IsCutAs bs pieces → IsCutAs (b ∷ bs) (with_byte_in_first b pieces)
with_byte b bs [] other cut =
    record { part = b ∷ cut.part; is_cut = ap (λ (h : List ℕ). b ∷ h) cut.is_cut; lines_free = tt; part_free = (other, cut.part_free) }
with_byte b bs (p ∷ ps) other cut = record {
  part = cut.part;
  is_cut = ap (λ (h : List ℕ). b ∷ h) cut.is_cut;
  lines_free = ((other, cut.lines_free.0), cut.lines_free.1);
  part_free = cut.part_free;
}

by_byte : (b : ℕ) (bs : List ℕ) → (b ≡ FEED) ⊎ (b ≢ FEED) → IsCutAs bs (ended_raw_lines bs) → IsCutAs (b ∷ bs) (ended_raw_lines (b ∷ bs))
by_byte b bs (inl is) rest =
    rw is (record { part = rest.part; is_cut = ap (λ (h : List ℕ). FEED ∷ h) rest.is_cut; lines_free = (tt, rest.lines_free); part_free = rest.part_free })
by_byte b bs (inr other) rest = rw (not-eq b 10 other) (with_byte b bs (ended_raw_lines bs) other rest)

pub cut_of : (bytes : List ℕ) → IsCutAs bytes (ended_raw_lines bytes)
cut_of [] = record { part = []; is_cut = refl; lines_free = tt; part_free = tt }
cut_of (b ∷ bs) = by_byte b bs (cases_eq b 10) (cut_of bs)

-- the law that joins pieces
pub joins_lines : JoinLines
joins_lines first more =
    let cut = cut_of first in
    let both = ap (λ (h : List ℕ). h ++ more) cut.is_cut ∙ append_assoc (with_feeds (ended_raw_lines first)) cut.part more in
    record {
      part = cut.part;
      is_cut = cut.is_cut;
      no_feed = cut.part_free;
      lines = ap lines_of both ∙ ap (map without_returns) (raw_lines_of-lines (ended_raw_lines first) (cut.part ++ more) cut.lines_free)
          ∙ map-append without_returns (ended_raw_lines first) (raw_lines_of (cut.part ++ more));
      ended = ap ended_lines both ∙ ap (map without_returns) (ended_raw_lines-lines (ended_raw_lines first) (cut.part ++ more) cut.lines_free)
          ∙ map-append without_returns (ended_raw_lines first) (ended_raw_lines (cut.part ++ more));
    }

pub ends_line : LinesEndAtFeeds
ends_line line more free = ap (map without_returns) (raw_lines_of-line line more free)
