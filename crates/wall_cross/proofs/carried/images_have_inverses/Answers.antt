use Rattle.wall_cross.proofs.CarriedImages.{image_inverse}
use Rattle.wall_cross.proofs.carried.images_have_inverses.Goals as goal

pub returns : goal.returns
returns c = λ d n m from to field valid valid_to image.
    let inverse = image_inverse d n m from to image.0 image.1 valid image.2 field valid_to in
    (inverse.0, inverse.1, (image.1, image.0, inverse.2), inverse.3)
