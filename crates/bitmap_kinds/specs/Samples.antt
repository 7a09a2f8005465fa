-- Sample messages of icons and logos, as claims about the rules in the octets and numbers of the text.
use Rattle.std.specs.Prelude.{◌≡◌, List, [], ◌∷◌, ◌++◌, ℕ, take, replicate}
use Rattle.bits.specs.Outcome.{Outcome, accepted, refused}
use Rattle.bitmap_ahead.specs.declared.Kind.{Kind}
use Rattle.bitmap_ahead.specs.declared.Kind.TheVariants.{Plain, Icon, Logo}
use Rattle.bitmap_ahead.specs.Ahead.{said}
use Rattle.bitmap_kinds.specs.Kinds.{reading, writing_into}
use Rattle.bitmap_kinds.specs.Promises.{stretch, no_fields, ReadNumbers, read_numbers}

-- the message m of a kind is read with these numbers
abbrev pub Reads : Kind → List ℕ → ReadNumbers → Type 0
Reads kind m n = read_numbers kind (reading kind m) ≡ n

-- the numbers of an image of 8 by 2 pixels, 9 of them black, that begins at a place
abbrev pub nine : ℕ → ReadNumbers
nine at = record { refusal = 0; place = 0; width = 8; height = 2; black = 9; fields = record { mcc = stretch 0 0; mnc = stretch 0 0; date = stretch 0 0; image = stretch at 2 } }

-- the same in a logo whose date has so many octets
abbrev pub nine_until : ℕ → ℕ → ReadNumbers
nine_until at date = record {
  refusal = 0;
  place = 0;
  width = 8;
  height = 2;
  black = 9;
  fields = record { mcc = stretch 1 3; mnc = stretch 4 2; date = stretch 6 date; image = stretch at 2 };
}

-- the numbers of a refusal
abbrev pub unread : ℕ → ReadNumbers
unread number = record { refusal = number; place = 0; width = 0; height = 0; black = 0; fields = no_fields }

-- a logo of 8 by 2 pixels with these codes and this date, into so much room
abbrev pub logo_into : ℕ → List ℕ → List ℕ → List ℕ → Outcome (List ℕ)
logo_into room mcc mnc date = writing_into room Logo (said mcc mnc date) 8 2 (0xFF ∷ 0x01 ∷ [])

-- ---- the pieces that samples are put together of

-- the version '0'
abbrev pub v0 : List ℕ
v0 = 0x30 ∷ []

-- the country code 244
abbrev pub mcc : List ℕ
mcc = 0x32 ∷ 0x34 ∷ 0x34 ∷ []

-- the network code 05
abbrev pub mnc : List ℕ
mnc = 0x30 ∷ 0x35 ∷ []

-- 31 December 1999
abbrev pub day : List ℕ
day = 0x31 ∷ 0x39 ∷ 0x39 ∷ 0x39 ∷ 0x31 ∷ 0x32 ∷ 0x33 ∷ 0x31 ∷ []

-- T, and 23:59:59
abbrev pub hour : List ℕ
hour = 0x54 ∷ 0x32 ∷ 0x33 ∷ 0x35 ∷ 0x39 ∷ 0x35 ∷ 0x39 ∷ []

-- Z
abbrev pub zulu : List ℕ
zulu = 0x5A ∷ []

-- the line feed
abbrev pub lf : List ℕ
lf = 0x0A ∷ []

-- the bitmap of P11
abbrev pub p11 : List ℕ
p11 = 0x00 ∷ 0x08 ∷ 0x02 ∷ 0x01 ∷ 0xFF ∷ 0x01 ∷ []

-- ---- the samples

-- icons and logos, each read or written as the rules say
pub record KindSamples : Type 0 where
  -- an icon: the version, then the bitmap
  pub icon : Reads Icon (v0 ++ p11) (nine 5)
  -- a logo of 244 and 05 that is valid up to 31 December 1999, octet by octet
  pub logo : Reads Logo (0x30 ∷ 0x32 ∷ 0x34 ∷ 0x34 ∷ 0x30 ∷ 0x35 ∷ 0x31 ∷ 0x39 ∷ 0x39 ∷ 0x39 ∷ 0x31 ∷ 0x32 ∷ 0x33 ∷ 0x31 ∷ 0x0A ∷ 0x00 ∷ 0x08 ∷ 0x02 ∷ 0x01 ∷ 0xFF ∷ 0x01 ∷ []) (nine_until 19 8)
  -- the same with a time
  pub timed : Reads Logo (v0 ++ mcc ++ mnc ++ day ++ hour ++ lf ++ p11) (nine_until 26 15)
  -- the same in universal time
  pub universal : Reads Logo (v0 ++ mcc ++ mnc ++ day ++ hour ++ zulu ++ lf ++ p11) (nine_until 27 16)
  -- the codes 000 and 00
  pub lowest : Reads Logo (v0 ++ 0x30 ∷ 0x30 ∷ 0x30 ∷ 0x30 ∷ 0x30 ∷ day ++ lf ++ p11) (nine_until 19 8)
  -- the codes 999 and 99
  pub highest : Reads Logo (v0 ++ 0x39 ∷ 0x39 ∷ 0x39 ∷ 0x39 ∷ 0x39 ∷ day ++ lf ++ p11) (nine_until 19 8)
  -- an icon without its depth octet: 2
  pub icon_cut : Reads Icon (0x30 ∷ 0x00 ∷ 0x08 ∷ 0x02 ∷ []) (unread 2)
  -- a logo without its depth octet: 2
  pub logo_cut : Reads Logo (v0 ++ mcc ++ mnc ++ day ++ lf ++ 0x00 ∷ 0x08 ∷ 0x02 ∷ []) (unread 2)
  -- a logo with a time and without its depth octet: 2
  pub timed_cut : Reads Logo (v0 ++ mcc ++ mnc ++ day ++ hour ++ lf ++ 0x00 ∷ 0x08 ∷ 0x02 ∷ []) (unread 2)
  -- an icon of version '1': 20
  pub icon_version : Reads Icon (0x31 ∷ p11) (unread 20)
  -- a logo of version '1': 20
  pub logo_version : Reads Logo (0x31 ∷ mcc ++ mnc ++ day ++ lf ++ p11) (unread 20)
  -- the octet below the digits in the country code: 20
  pub below : Reads Logo (v0 ++ 0x2F ∷ 0x34 ∷ 0x34 ∷ mnc ++ day ++ lf ++ p11) (unread 20)
  -- the octet above them in the network code: 20
  pub above : Reads Logo (v0 ++ mcc ++ 0x30 ∷ 0x3A ∷ day ++ lf ++ p11) (unread 20)
  -- a small t: 20
  pub letter : Reads Logo (v0 ++ mcc ++ mnc ++ day ++ 0x74 ∷ 0x32 ∷ 0x33 ∷ 0x35 ∷ 0x39 ∷ 0x35 ∷ 0x39 ∷ lf ++ p11) (unread 20)
  -- a T and five digits: 20
  pub five_digits : Reads Logo (v0 ++ mcc ++ mnc ++ day ++ 0x54 ∷ 0x32 ∷ 0x33 ∷ 0x35 ∷ 0x39 ∷ 0x35 ∷ lf ++ p11) (unread 20)
  -- a carriage return for the line feed: 20
  pub returned : Reads Logo (v0 ++ mcc ++ mnc ++ day ++ 0x0D ∷ p11) (unread 20)
  -- a network code of three digits, 051: 20
  pub three_digits : Reads Logo (v0 ++ mcc ++ mnc ++ 0x31 ∷ day ++ lf ++ p11) (unread 20)
  -- codes in half octets and no date, as later tools send them: 2 while there are fewer than 19 octets
  pub half_octets : Reads Logo (v0 ++ 0x42 ∷ 0xF4 ∷ 0x50 ∷ lf ++ p11) (unread 2)
  -- and 20 from then on
  pub half_octets_long : Reads Logo (v0 ++ 0x42 ∷ 0xF4 ∷ 0x50 ∷ lf ++ 0x00 ∷ 0x10 ∷ 0x05 ∷ 0x01 ∷ replicate 10 0xFF) (unread 20)
  -- an icon without its version is no icon: 20
  pub bare : Reads Icon p11 (unread 20)
  -- but a plain bitmap
  pub bare_plain : Reads Plain p11 (nine 4)
  -- 2 ahead of 20: version '1' and no depth octet
  pub cut_first : Reads Icon (0x31 ∷ 0x00 ∷ 0x08 ∷ 0x02 ∷ []) (unread 2)
  -- 20 ahead of 15: version '1' and a width of 9
  pub ahead_first : Reads Icon (0x31 ∷ 0x00 ∷ 0x09 ∷ 0x02 ∷ 0x01 ∷ 0xFF ∷ 0x01 ∷ []) (unread 20)
  -- 15 ahead of 16: a width of 9 and one image octet
  pub sizes_first : Reads Icon (0x30 ∷ 0x00 ∷ 0x09 ∷ 0x02 ∷ 0x01 ∷ 0xFF ∷ []) (unread 15)
  -- 16: one octet more than the sizes ask
  pub image_last : Reads Logo (v0 ++ mcc ++ mnc ++ day ++ lf ++ p11 ++ 0x00 ∷ []) (unread 16)
  -- the logo is written in 21 octets
  pub written : logo_into 21 mcc mnc day ≡ accepted (v0 ++ mcc ++ mnc ++ day ++ lf ++ p11)
  -- with time and Z in 29
  pub written_timed : logo_into 29 mcc mnc (day ++ hour ++ zulu) ≡ accepted (v0 ++ mcc ++ mnc ++ day ++ hour ++ zulu ++ lf ++ p11)
  -- 20 octets are too few: 11
  pub no_room : logo_into 20 mcc mnc day ≡ refused 11 0
  -- digits as their values: 20
  pub values : logo_into 21 (2 ∷ 4 ∷ 4 ∷ []) mnc day ≡ refused 20 0
  -- a network code of three digits: 20
  pub long_code : logo_into 22 mcc (mnc ++ 0x31 ∷ []) day ≡ refused 20 0
  -- a date of seven digits: 20
  pub short_date : logo_into 21 mcc mnc (take 7 day) ≡ refused 20 0
  -- an icon is written in seven octets; six are too few: 11
  pub icon_written : writing_into 7 Icon (said [] [] []) 8 2 (0xFF ∷ 0x01 ∷ []) ≡ accepted (v0 ++ p11)
  pub icon_no_room : writing_into 6 Icon (said [] [] []) 8 2 (0xFF ∷ 0x01 ∷ []) ≡ refused 11 0
  -- a code or a date with an icon or a plain bitmap: 20
  pub icon_code : writing_into 7 Icon (said mcc [] []) 8 2 (0xFF ∷ 0x01 ∷ []) ≡ refused 20 0
  pub plain_date : writing_into 6 Plain (said [] [] day) 8 2 (0xFF ∷ 0x01 ∷ []) ≡ refused 20 0
